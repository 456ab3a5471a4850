use Rattle.std.proofs.Common.{◌≡◌, drop}
use Rattle.t7_snapshot.specs.Noting.{FitInTurn, after_all}
use Rattle.t7_snapshot.proofs.image.carry_all.Given as goal

abbrev pub invariant-loop-message : goal.invariant-loop-message
invariant-loop-message l = record {
  same : l.image ≡ record l.fn.image { orders = l.image.orders };
  fit : FitInTurn l.fn.image.securities l.image.orders (drop l.message-index l.messages);
  made : after_all l.fn.image.securities l.fn.image.orders l.messages ≡ after_all l.fn.image.securities l.image.orders (drop l.message-index l.messages);
}
