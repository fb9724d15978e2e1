-- `pass_one::is_typed` meets its contract: three kinds are numbers.
use Rattle.pass_one.proofs.Entries.{typed_numbers}
use Rattle.pass_one.proofs.is_typed.Goals as goal

pub returns-in-Const : goal.returns-in-Const
returns-in-Const c = typed_numbers _ _ _ c.in-Const.is
