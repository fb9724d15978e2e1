-- `Pending::is_same` meets its contract: the names that count are compared pair by pair.
use Rattle.std.proofs.Common.{rules, ◌≡◌, ◌∙◌, eqb, take}
use borrow.Author.Tests.{tests}
use lib.Pointwise.{pointwise}
use Rattle.std.proofs.lemmas.Iterator.{YieldsList-from_slice, YieldsList-from_zip}
use Rattle.std.proofs.lemmas.Iterator.Search.{all_from_yields_List}
use Rattle.pending.proofs.Laws.{compared, pairs_told}
use Rattle.pending.proofs.Pending.is_same.Goals as goal

pub returns : goal.returns
returns c =
    let l = c.count-len.result in
    let these = c.args.self.names in
    let those = c.args.other.names in
    let told : c.all.result ≡ pointwise eqb (take l these) (take l those) =
    all_from_yields_List (λ p. eqb p.0 p.1) c.all.new.self _ c.all.result c.all.ensures.ran
    (YieldsList-from_zip (YieldsList-from_slice (take l these) cc) (YieldsList-from_slice (take l those) cc))
    (λ p b q k. search (rules, tests))
    ∙ pairs_told these those l (search rules) (search rules) in
    search compared
