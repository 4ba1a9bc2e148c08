use Rattle.measures.specs.Caps.{amounts_weigh}
use Rattle.measures.proofs.additive.AnyWeighed.number.Goals as goal

pub returns-clause-tied : goal.returns-clause-tied
returns-clause-tied g c = amounts_weigh (g.A.Additive.amounts c.args.self.now) (g.met.A.Additive.additive c.args.self.now).most
