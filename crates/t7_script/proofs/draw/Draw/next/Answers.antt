-- A product that is cut to 64 bits before the step is added gives the state that the whole one gives.
use Rattle.std.proofs.Common.{◌≡◌, ℕ, ◌+◌, ◌*◌, ◌/◌, ◌%◌, ◌^◌, ap}
use Rattle.std.proofs.Math.Nat.{mod-add-mod}
use Rattle.t7_script.specs.Draws.{drawn, next_state}
use Rattle.t7_script.proofs.draw.Draw.next.Goals as goal

moved_on : (x : ℕ) → (x * 6_364_136_223_846_793_005 % 18446744073709551616 + 1_442_695_040_888_963_407) % 18446744073709551616 ≡ next_state x
unfolding next_state
moved_on x = mod-add-mod (x * 6_364_136_223_846_793_005) 18446744073709551616 1_442_695_040_888_963_407

pub returns-clause-state : goal.returns-clause-state
returns-clause-state c = let e = moved_on c.self.inside.state in cc

pub returns-clause-number : goal.returns-clause-number
returns-clause-number c = let e = ap (λ s. s / 8589934592 % c.args.k) (moved_on c.self.inside.state) in cc
