-- What is kept of a field gives it back.
use Rattle.std.specs.Prelude.{◌≡◌, is_some}
use Rattle.std.proofs.Common.{ℕ, Bool, true, false, refl}
use Rattle.t7_layout.specs.declared.fields.FieldRef.TheInside.{Inside}
use Rattle.t7_layout.specs.declared.words.Kind.{Kind}
use Rattle.t7_layout.specs.Nulls.{kept_null, null_word}

-- whether there is a null is what is kept
has_kept : (kind : Kind) (has_null : Bool) (word : ℕ) → is_some (kept_null kind has_null word) ≡ has_null
has_kept kind true word = refl
has_kept kind false word = refl

-- a field whose word is that of its null is the one that its place gives
pub field_back : (a : Inside) → a.null ≡ null_word (kept_null a.kind a.has_null a.null)
    → (let f : Inside = record {
      offset = a.offset;
      width = a.width;
      span = a.span;
      kind = a.kind;
      has_null = is_some (kept_null a.kind a.has_null a.null);
      null = null_word (kept_null a.kind a.has_null a.null);
    } in f) ≡ a
field_back a kept = rw (has_kept a.kind a.has_null a.null, ← kept) refl
