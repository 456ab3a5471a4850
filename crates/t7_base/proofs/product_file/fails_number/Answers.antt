use Rattle.std.proofs.Common.{rules}
use Rattle.t7_base.specs.ProductFile.{fails_number, security_range, tick_range, session_range}
use Rattle.t7_base.proofs.product_file.fails_number.Goals as goal

pub returns-then-at-lt4 : goal.returns-then-at-lt4
unfolding fails_number security_range tick_range session_range
returns-then-at-lt4 c = search rules

pub returns-then-is_security : goal.returns-then-is_security
unfolding fails_number security_range tick_range session_range
returns-then-is_security c = search rules

pub returns : goal.returns
unfolding fails_number security_range tick_range session_range
returns c = search rules
