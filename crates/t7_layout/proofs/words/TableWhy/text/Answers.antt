use Rattle.std.proofs.Common.{rules}
use Rattle.t7_layout.specs.Texts.{why_text}
use Rattle.t7_layout.proofs.words.TableWhy.text.Goals as goal

pub returns-in-Columns : goal.returns-in-Columns
unfolding why_text
returns-in-Columns c = search rules

pub returns-in-Family : goal.returns-in-Family
unfolding why_text
returns-in-Family c = search rules

pub returns-in-Cell : goal.returns-in-Cell
unfolding why_text
returns-in-Cell c = search rules

pub returns-in-Kind : goal.returns-in-Kind
unfolding why_text
returns-in-Kind c = search rules

pub returns-in-Width : goal.returns-in-Width
unfolding why_text
returns-in-Width c = search rules

pub returns-in-Null : goal.returns-in-Null
unfolding why_text
returns-in-Null c = search rules

pub returns-in-DuplicateId : goal.returns-in-DuplicateId
unfolding why_text
returns-in-DuplicateId c = search rules

pub returns-in-DuplicateName : goal.returns-in-DuplicateName
unfolding why_text
returns-in-DuplicateName c = search rules

pub returns-in-Overlap : goal.returns-in-Overlap
unfolding why_text
returns-in-Overlap c = search rules

pub returns-in-Hole : goal.returns-in-Hole
unfolding why_text
returns-in-Hole c = search rules

pub returns-in-Length : goal.returns-in-Length
unfolding why_text
returns-in-Length c = search rules

pub returns-in-Header : goal.returns-in-Header
unfolding why_text
returns-in-Header c = search rules

pub returns-in-RoleField : goal.returns-in-RoleField
unfolding why_text
returns-in-RoleField c = search rules

pub returns-in-RoleMissing : goal.returns-in-RoleMissing
unfolding why_text
returns-in-RoleMissing c = search rules
