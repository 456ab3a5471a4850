use Rattle.t7_linear.proofs.book.LinearBook.modify.Goals as goal

-- at these notes
pub returns-then-keeps_priority : goal.returns-then-keeps_priority
returns-then-keeps_priority c = c.resize.ensures c.args.notes.now.items
