use Rattle.std.proofs.Common.{sym, subst}
use Rattle.rules.specs.Fit.{Fit}
use Rattle.house.proofs.Emptiness.{opened_fit}
use Rattle.house.proofs.Made.{made}
use Rattle.house.proofs.making.new_figures.Goals as goal

pub returns : goal.returns
returns c = made c.args.members c.args.securities _ _ c.empty.ensures c.no_member.ensures

pub invariant_of-result : goal.invariant_of-result
invariant_of-result c =
    subst Fit (sym (made c.args.members c.args.securities _ _ c.empty.ensures c.no_member.ensures))
    (opened_fit c.args.members c.args.securities c.requires)
