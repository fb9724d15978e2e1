-- `pass_one::is_word_tested` meets its contract: words are tested at four kinds, at a Call only
-- where its function gives a number and has no number parameters.
use Rattle.pass_one.proofs.Entries.{tested_kinds, words}
use Rattle.pass_one.proofs.is_word_tested.Goals as goal

pub returns-in-Const : goal.returns-in-Const
returns-in-Const c = tested_kinds _ _ c.in-Const.is

pub returns-in_default : goal.returns-in_default
returns-in_default c = search (words, c.in_default.not-Const, c.in_default.not-Var, c.in_default.not-Case, c.in_default.not-Call)
