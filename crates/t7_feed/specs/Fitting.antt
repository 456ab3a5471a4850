-- Messages that fit a list of orders, one after another.
use Rattle.std.specs.Prelude.{ℤ, List, [], ◌∷◌, Option, Some, None}
use Rattle.t7_base.specs.declared.public.Resting.{Resting}
use Rattle.t7_base.specs.declared.public.Public.{Public}
use Rattle.t7_base.specs.declared.public.Public.TheVariants.{Add}
use Rattle.t7_mbook.specs.declared.misfit.Misfit.{Misfit}
use Rattle.t7_mbook.specs.Misfits.{misfit_of}
use Rattle.t7_mbook.specs.Changes.{after}

-- the list, where there is no misfit
abbrev pub unless : Option Misfit → List Resting → Option (List Resting)
unless None list = Some list
unless (Some why) list = None

-- the list after a message, or nothing where it misfits
unfoldable pub stepped : List ℤ → List Resting → Public → Option (List Resting)
stepped securities list message = unless (misfit_of securities list message) (after securities list message)

-- what follows a list, where there is one
abbrev pub then_listed : Option (List Resting) → (List Resting → Option (List Resting)) → Option (List Resting)
then_listed None rest = None
then_listed (Some list) rest = rest list

-- the list that these orders give, each as an Add to the list of those before it, or nothing where one misfits
abbrev pub staged : List ℤ → List Resting → List Resting → Option (List Resting)
staged securities [] list = Some list
staged securities (order ∷ orders) list = then_listed (stepped securities list (Add order)) (λ next. staged securities orders next)
