-- What bytes that follow do to the front.
use Rattle.std.proofs.Common.{◌≡◌, ℕ, ◌+◌, ◌<◌, ◌≤◌, max, List, [], ◌∷◌, ◌++◌, length, take, drop, refl, sym, ap, ◌∙◌, subst, inl, inr, arith, length-append}
use Rattle.std.proofs.lemmas.List.{take-append-le, take-append-drop, length-take-le, append-nil, append_assoc}
use Rattle.std.specs.List.{AllByRecursion, concat}
use Rattle.std.proofs.lemmas.Bool.{cases_lt, lt-ltb, le-ltb}
use Rattle.byteorder.specs.Numbers.{little_from-append}
use Rattle.t7_frames.specs.Frames.{body_len, Front, whole, not_yet, bad_length, front_by, front_of, IsWhole, IsFrame, BeginsWithNoFrame}

pub body_len-append : (xs ys : List ℕ) → 4 ≤ length xs → body_len (xs ++ ys) ≡ body_len xs
unfolding body_len
body_len-append xs ys four = little_from-append 4 xs ys four

-- with four bytes, and with all of the frame where the length is in range, more bytes change nothing
pub front_by-more : (h k b : ℕ) (f g : List ℕ) → 4 ≤ h → h ≤ k
    → (8 ≤ b → b ≤ 4096 → (b ≤ h) × (f ≡ g)) → front_by k b g ≡ front_by h b f
front_by-more h k b f g four more same =
    elim (cases_lt b 8) [
      | inl low ↦ rw (le-ltb h 4 four, le-ltb k 4 (omega arith), lt-ltb b 8 low)
      | inr high ↦ elim (cases_lt 4096 b) [
        | inl over ↦ rw (le-ltb h 4 four, le-ltb k 4 (omega arith), le-ltb b 8 high, lt-ltb 4096 b over)
        | inr fits ↦
            let both : (b ≤ h) × (f ≡ g) = same high fits in
            rw (le-ltb h 4 four, le-ltb k 4 (omega arith), le-ltb b 8 high, le-ltb 4096 b fits, le-ltb h b both.0, le-ltb k b (omega arith)) (ap whole (sym both.1))
      ]
    ]

pub front_of-append : (xs ys : List ℕ) → 4 ≤ length xs
    → (8 ≤ body_len xs → body_len xs ≤ 4096 → body_len xs ≤ length xs) → front_of (xs ++ ys) ≡ front_of xs
front_of-append xs ys four all =
    rw (body_len-append xs ys four, length-append xs ys)
    (front_by-more (length xs) (length xs + length ys) (body_len xs) (take (body_len xs) xs) (take (body_len xs) (xs ++ ys)) four (omega arith)
    (λ low high. (all low high, sym (take-append-le (body_len xs) xs ys (all low high)))))

no_items : (ys : List ℕ) → length ys ≤ 0 → ys ≡ []
no_items [] h = refl
no_items (y ∷ ys) h = absurd (omega arith)

-- what is gathered shows the front of all, where it has the whole frame or nothing is left
pub front_of-gathered : (xs ys all : List ℕ) → xs ++ ys ≡ all → 4 ≤ length xs
    → (0 < length ys → 8 ≤ body_len xs → body_len xs ≤ 4096 → body_len xs ≤ length xs) → front_of xs ≡ front_of all
front_of-gathered xs ys all is four enough =
    elim (cases_lt 0 (length ys)) [
      | inl some ↦ sym (front_of-append xs ys four (enough some)) ∙ ap front_of is
      | inr none ↦ ap front_of (sym (append-nil xs) ∙ ap (λ r. xs ++ r) (sym (no_items ys none)) ∙ is)
    ]

pub body_len-same : (xs ys zs ws : List ℕ) → xs ++ ys ≡ zs ++ ws → 4 ≤ length xs → 4 ≤ length zs → body_len xs ≡ body_len zs
body_len-same xs ys zs ws is four more = sym (body_len-append xs ys four) ∙ ap body_len is ∙ body_len-append zs ws more

-- no more than the frame at the front has is gathered, where that was so and no more than n, which is within it, was asked for
pub begun-after : (xs ys zs ws : List ℕ) (n : ℕ) → xs ++ ys ≡ zs ++ ws → 4 ≤ length xs
    → (4 ≤ length zs → length zs ≤ max 4 (body_len zs)) → length xs ≤ max (length zs) n → n ≤ max 4 (body_len xs) → length xs ≤ max 4 (body_len xs)
begun-after xs ys zs ws n is four begun most within =
    elim (cases_lt (length zs) 4) [
      | inl low ↦ omega arith
      | inr high ↦ let same : body_len xs ≡ body_len zs = body_len-same xs ys zs ws is four high in let old : length zs ≤ max 4 (body_len zs) = begun high in omega arith
    ]

-- a whole frame at the front is one, and is the first bytes
pub record Fronted (bytes frame : List ℕ) : Type 0 where
  pub is_frame : IsFrame frame
  pub split : frame ++ drop (body_len bytes) bytes ≡ bytes
  pub count : length frame ≡ body_len bytes
  pub enough : body_len bytes ≤ length bytes
  pub is : frame ≡ take (body_len bytes) bytes

-- the facts behind a front that is whole
front_by-whole : (h b : ℕ) (f g : List ℕ) → front_by h b f ≡ whole g → (4 ≤ h) × (8 ≤ b) × (b ≤ 4096) × (b ≤ h) × (g ≡ f)
front_by-whole h b f g is =
    elim (cases_lt h 4) [
      | inl low ↦ let e : front_by h b f ≡ not_yet = rw (lt-ltb h 4 low) in cc
      | inr four ↦ elim (cases_lt b 8) [
        | inl low ↦ let e : front_by h b f ≡ bad_length b = rw (le-ltb h 4 four, lt-ltb b 8 low) in cc
        | inr high ↦ elim (cases_lt 4096 b) [
          | inl over ↦ let e : front_by h b f ≡ bad_length b = rw (le-ltb h 4 four, le-ltb b 8 high, lt-ltb 4096 b over) in cc
          | inr fits ↦ elim (cases_lt h b) [
            | inl short ↦ let e : front_by h b f ≡ not_yet = rw (le-ltb h 4 four, le-ltb b 8 high, le-ltb 4096 b fits, lt-ltb h b short) in cc
            | inr all ↦ let e : front_by h b f ≡ whole f = rw (le-ltb h 4 four, le-ltb b 8 high, le-ltb 4096 b fits, le-ltb h b all) in (four, high, fits, all, cc)
          ]
        ]
      ]
    ]

pub whole-front : (bytes frame : List ℕ) → front_of bytes ≡ whole frame → Fronted bytes frame
whole-front bytes frame is =
    let facts = front_by-whole (length bytes) (body_len bytes) (take (body_len bytes) bytes) frame is in
    let b = body_len bytes in
    let count : length frame ≡ b = ap length facts.4 ∙ length-take-le b bytes facts.3 in
    let split : frame ++ drop b bytes ≡ bytes = ap (λ f. f ++ drop b bytes) facts.4 ∙ take-append-drop b bytes in
    record {
      is_frame = record {
        least = omega arith;
        most = omega arith;
        spelled = sym (body_len-append frame (drop b bytes) (omega arith)) ∙ ap body_len split ∙ sym count;
      };
      split = split;
      count = count;
      enough = facts.3;
      is = facts.4;
    }

pub concat-push : (xss : List (List ℕ)) (ys zs : List ℕ) → concat (xss ++ ys ∷ []) ++ zs ≡ concat xss ++ (ys ++ zs)
concat-push [] ys zs = ap (λ r. r ++ zs) (append-nil ys)
concat-push (xs ∷ xss) ys zs = append_assoc xs (concat (xss ++ ys ∷ [])) zs ∙ ap (λ r. xs ++ r) (concat-push xss ys zs) ∙ sym (append_assoc xs (concat xss) (ys ++ zs))

pub each-push : (P : List ℕ → Type 0) (xss : List (List ℕ)) (ys : List ℕ) → AllByRecursion P xss → P ys → AllByRecursion P (xss ++ ys ∷ [])
each-push P [] ys each here = (here, tt)
each-push P (xs ∷ xss) ys each here = (each.0, each-push P xss ys each.1 here)

front_by-none : (h b : ℕ) (f : List ℕ) → (IsWhole (front_by h b f) → ⊥) → 4 ≤ h → 8 ≤ b → b ≤ 4096 → h < b
front_by-none h b f not four low high =
    elim (cases_lt h b) [
      | inl short ↦ short
      | inr all ↦ let e : front_by h b f ≡ whole f = rw (le-ltb h 4 four, le-ltb b 8 low, le-ltb 4096 b high, le-ltb h b all) in absurd (not (subst IsWhole (sym e) tt))
    ]

pub no_frame-from : (bytes : List ℕ) → (IsWhole (front_of bytes) → ⊥) → BeginsWithNoFrame bytes
no_frame-from bytes not = front_by-none (length bytes) (body_len bytes) (take (body_len bytes) bytes) not

-- the facts behind a bad length
pub record Bad (bytes : List ℕ) : Type 0 where
  pub four : 4 ≤ length bytes
  pub out : 8 ≤ body_len bytes → body_len bytes ≤ 4096 → ⊥

front_by-bad : (h b n : ℕ) (f : List ℕ) → front_by h b f ≡ bad_length n → (4 ≤ h) × (8 ≤ b → b ≤ 4096 → ⊥)
front_by-bad h b n f is =
    elim (cases_lt h 4) [
      | inl low ↦ let e : front_by h b f ≡ not_yet = rw (lt-ltb h 4 low) in cc
      | inr four ↦ (
        four,
        λ high fits. elim (cases_lt h b) [
          | inl short ↦ let e : front_by h b f ≡ not_yet = rw (le-ltb h 4 four, le-ltb b 8 high, le-ltb 4096 b fits, lt-ltb h b short) in cc
          | inr all ↦ let e : front_by h b f ≡ whole f = rw (le-ltb h 4 four, le-ltb b 8 high, le-ltb 4096 b fits, le-ltb h b all) in cc
        ],
      )
    ]

pub bad-front : (bytes : List ℕ) (n : ℕ) → front_of bytes ≡ bad_length n → Bad bytes
bad-front bytes n is = let facts = front_by-bad (length bytes) (body_len bytes) n (take (body_len bytes) bytes) is in record { four = facts.0; out = facts.1 }

-- a bad length stays at the front, whatever comes
pub bad-stays : (bytes more : List ℕ) (n : ℕ) → front_of bytes ≡ bad_length n → front_of (bytes ++ more) ≡ bad_length n
bad-stays bytes more n is =
    let bad = bad-front bytes n is in front_of-append bytes more bad.four (λ low high. absurd (bad.out low high)) ∙ is

-- a whole frame stays at the front, whatever comes
whole-stays-at : (bytes more : List ℕ) (front : Front) → front_of bytes ≡ front → IsWhole front → IsWhole (front_of (bytes ++ more))
whole-stays-at bytes more (whole f) is w =
    let front = whole-front bytes f is in let frame = front.is_frame in let least = frame.least in
    subst IsWhole (sym (front_of-append bytes more (omega (arith, front.count, front.enough)) (λ _ _. front.enough) ∙ is)) tt
whole-stays-at bytes more not_yet is w = absurd w
whole-stays-at bytes more (bad_length n) is w = absurd w

pub whole-stays : (bytes more : List ℕ) → IsWhole (front_of bytes) → IsWhole (front_of (bytes ++ more))
whole-stays bytes more w = whole-stays-at bytes more (front_of bytes) refl w

-- where a front is waited for, fewer bytes are held than the longest frame has
front_by-waits : (h b : ℕ) (f : List ℕ) → front_by h b f ≡ not_yet → h < 4096
front_by-waits h b f is =
    elim (cases_lt h 4096) [
      | inl low ↦ low
      | inr high ↦ elim (cases_lt b 8) [
        | inl low ↦ let e : front_by h b f ≡ bad_length b = rw (le-ltb h 4 (omega arith), lt-ltb b 8 low) in cc
        | inr least ↦ elim (cases_lt 4096 b) [
          | inl over ↦ let e : front_by h b f ≡ bad_length b = rw (le-ltb h 4 (omega arith), le-ltb b 8 least, lt-ltb 4096 b over) in cc
          | inr fits ↦ let e : front_by h b f ≡ whole f = rw (le-ltb h 4 (omega arith), le-ltb b 8 least, le-ltb 4096 b fits, le-ltb h b (omega arith)) in cc
        ]
      ]
    ]

pub waits-few : (bytes : List ℕ) → front_of bytes ≡ not_yet → length bytes < 4096
waits-few bytes is = front_by-waits (length bytes) (body_len bytes) (take (body_len bytes) bytes) is
