use Rattle.t7_fields.proofs.WriteFacts.{message_written}
use Rattle.t7_fields.proofs.laws.a_message_says_what_is_written.Goals as goal

pub returns : goal.returns
returns c = message_written
