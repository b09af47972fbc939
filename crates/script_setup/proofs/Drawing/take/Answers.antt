-- `take` meets its contract: a node's byte is kept if there is room for it.
use Rattle.std.proofs.Common.{◌≡◌, ◌∷◌, [], ◌++◌, rules}
use Rattle.script_commands.specs.declared.Setup.TheVariants.{Source, Target}
use Rattle.script_commands.specs.declared.Command.TheVariants.{Setup}
use Rattle.script_commands.specs.declared.Read.TheVariants.{Next}
use Rattle.script_setup.proofs.KeptBytes.{kept}
use Rattle.script_setup.proofs.Drawing.take.Goals as goal

pub returns-in-Next-Setup-Source-default : goal.returns-in-Next-Setup-Source-default
returns-in-Next-Setup-Source-default c =
    let arm = c.in-Next-Setup-Source-default in
    let read : c.args.read ≡ Next (Setup (Source arm.children)) arm.field-1 = search rules in
    rw read (λ more total g. record {
      source = g.source ++ arm.children ∷ [];
      target = g.target;
      limit = g.limit;
      draws = record {
        source = kept 33 arm.children _ _ _ g.draws.source c.add.ensures;
        target = g.draws.target;
        limit = g.draws.limit;
      };
      rest = g.rest;
    })

pub returns-in-Next-Setup-Target-default : goal.returns-in-Next-Setup-Target-default
returns-in-Next-Setup-Target-default c =
    let arm = c.in-Next-Setup-Target-default in
    let read : c.args.read ≡ Next (Setup (Target arm.children)) arm.field-1 = search rules in
    rw read (λ more total g. record {
      source = g.source;
      target = g.target ++ arm.children ∷ [];
      limit = g.limit;
      draws = record {
        source = g.draws.source;
        target = kept 65 arm.children _ _ _ g.draws.target c.add-in-Next-Setup-Target-default.ensures;
        limit = g.draws.limit;
      };
      rest = g.rest;
    })
