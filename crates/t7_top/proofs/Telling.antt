-- A text that is printed, and one that is cut off.
use Rattle.std.proofs.Common.{◌≡◌, ◌≢◌, ℕ, List, [], ◌∷◌, ◌++◌, Option, Ok, Err, refl, sym, ◌∙◌, ap, subst}
use Rattle.t7_base.specs.Outside.{Begins, Grew}
use Rattle.t7_base.proofs.Grown.{grew_as, grew_then}
use Rattle.t7_outcome.specs.declared.ending.Finish.TheVariants.{Text}
use Rattle.t7_outcome.specs.declared.ending.Stop.TheVariants.{ReadFault, WriteFault}
use Rattle.t7_outcome.specs.Ending.{Ended}
use Rattle.t7_outcome.specs.Outcome.{FileSet, Says, Wrote}
use Rattle.t7_outcome.specs.Performing.{TookFiles}
use Rattle.t7_outcome.proofs.Lines.{begins_after, begins_more, fronts_all, spelled_says, text_of-one}
use Rattle.t7_top.specs.Moments.{IsReported}
use Rattle.t7_top.specs.Text.{Tells, told}
use Rattle.t7_top.proofs.Reading.{files_none}

-- a write fault in the text, before its line feed
pub cut_text : (a b : Option (List ℕ)) (text : List ℕ) → Grew a b (λ w. Begins w text) → Grew a b (λ w. Begins w (text ++ 10 ∷ []))
cut_text a b text cut = grew_as a b (λ w. Begins w text) (λ w. Begins w (text ++ 10 ∷ [])) cut (λ w front. begins_more w text (10 ∷ []) front)

-- the same of the outcome
pub cut_line : (a b : Option (List ℕ)) (text : List ℕ) → Grew a b (λ w. Begins w (text ++ 10 ∷ [])) → Grew a b (Wrote IsReported (told text) (Err WriteFault))
cut_line a b text cut =
    grew_as a b (λ w. Begins w (text ++ 10 ∷ [])) (Wrote IsReported (told text) (Err WriteFault)) cut
    (λ w front. (
      text ∷ [],
      fronts_all IsReported (Says text ∷ []) (text ∷ []) (spelled_says IsReported (text ∷ [])),
      subst (λ (l : List ℕ). Begins w l) (sym (text_of-one text)) front,
    ))

pub whole_line : (a b c : Option (List ℕ)) (text : List ℕ) → Grew a b (λ w. w ≡ text) → Grew b c (λ w. w ≡ 10 ∷ []) → Grew a c (Wrote IsReported (told text) (Ok Text))
whole_line a b c text whole feed =
    grew_then a b c (λ w. w ≡ text) (λ w. w ≡ 10 ∷ []) (Wrote IsReported (told text) (Ok Text)) whole feed
    (λ xs ys x y. (
      text ∷ [],
      spelled_says IsReported (text ∷ []),
      ap (λ (l : List ℕ). l ++ ys) x ∙ ap (λ (l : List ℕ). text ++ l) y ∙ sym (text_of-one text),
    ))

-- a write fault in the line feed
pub cut_feed : (a b c : Option (List ℕ)) (text : List ℕ) → Grew a b (λ w. w ≡ text) → Grew b c (λ w. Begins w (10 ∷ [])) → Grew a c (λ w. Begins w (text ++ 10 ∷ []))
cut_feed a b c text whole feed =
    grew_then a b c (λ w. w ≡ text) (λ w. Begins w (10 ∷ [])) (λ w. Begins w (text ++ 10 ∷ [])) whole feed
    (λ xs ys x y. subst (λ (l : List ℕ). Begins (xs ++ ys) (l ++ 10 ∷ [])) x (begins_after xs ys (10 ∷ []) y))

-- what a command that prints a text did to the files
tells_no_read : (text : List ℕ) (ended : Ended) (p q : Option (List ℕ)) → Tells text ended p q → ended ≢ Err ReadFault
tells_no_read text (Ok finish) p q tells = λ is. cc
tells_no_read text (Err WriteFault) p q tells = λ is. cc
tells_no_read text (Err stop) p q tells = absurd tells

pub text_files : (o : Option FileSet) (a : Option (List (List ℕ))) (text : List ℕ) (ended : Ended) (p q : Option (List ℕ)) (n : ℕ) → Tells text ended p q
    → TookFiles (λ g. told text) [] ended o a a n n
text_files o a text ended p q n tells = files_none o a (λ g. told text) ended n (λ g. refl) (tells_no_read text ended p q tells)
