-- The first line of a script.
use Rattle.std.proofs.Common.{◌≡◌, ◌≢◌, ℕ, zero, suc, ◌+◌, ◌<◌, List, [], ◌∷◌, length, get_or, take, drop, refl, ◌∙◌, ap, add-one, arith, length-drop, ◌-◌}
use Rattle.std.proofs.lemmas.List.{take_all}
use Rattle.std.proofs.lemmas.Bool.Decides.{nat_tests}
use Rattle.t7_replay.specs.Script.{lines_of, with_byte}

at_feed : (b : ℕ) (bytes : List ℕ) → b ≡ 10 → lines_of (b ∷ bytes) ≡ [] ∷ lines_of bytes
at_feed b bytes is = grind (arith, nat_tests)

past_byte : (b : ℕ) (bytes : List ℕ) → b ≢ 10 → lines_of (b ∷ bytes) ≡ with_byte b (lines_of bytes)
past_byte b bytes is = grind (arith, nat_tests)

-- the first line feed ends the first line
pub cut_at : (bytes : List ℕ) (at : ℕ) → at < length bytes → get_or bytes at 0 ≡ 10 → ((k : ℕ) → k < at → get_or bytes k 0 ≢ 10)
    → lines_of bytes ≡ take at bytes ∷ lines_of (drop (suc at) bytes)
cut_at [] at inside feed none = absurd (omega arith)
cut_at (b ∷ bytes) zero inside feed none = at_feed b bytes feed
cut_at (b ∷ bytes) (suc at) inside feed none =
    past_byte b bytes (none 0 (omega arith))
    ∙ ap (with_byte b) (cut_at bytes at (omega arith) feed (λ k below. none (suc k) (omega arith)))

-- with no line feed all is one line
pub uncut : (bytes : List ℕ) → bytes ≢ [] → ((k : ℕ) → k < length bytes → get_or bytes k 0 ≢ 10) → lines_of bytes ≡ bytes ∷ []
uncut [] some none = absurd (some refl)
uncut (b ∷ []) some none = past_byte b [] (none 0 (omega arith))
uncut (b ∷ c ∷ bytes) some none =
    past_byte b (c ∷ bytes) (none 0 (omega arith))
    ∙ ap (with_byte b) (uncut (c ∷ bytes) (λ e. cc) (λ k below. none (suc k) (omega arith)))

-- the same, as `&bytes[at + 1..]` says it
pub cut_off : (bytes : List ℕ) (at : ℕ) → at < length bytes → get_or bytes at 0 ≡ 10 → ((k : ℕ) → k < at → get_or bytes k 0 ≢ 10)
    → lines_of bytes ≡ take at bytes ∷ lines_of (take (length bytes - (at + 1)) (drop (at + 1) bytes))
cut_off bytes at inside feed none =
    let all = take_all (length bytes - (at + 1)) (drop (at + 1) bytes) (omega (arith, length-drop (at + 1) bytes)) in
    rw (all, add-one) (cut_at bytes at inside feed none)
