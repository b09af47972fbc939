use Rattle.std.proofs.Common.{rules, ◌≡◌, get_or}
use Rattle.std.proofs.lemmas.List.FromFn.{fill_by_all}
use Rattle.discipline_clock.proofs.own_images.Goals as goal

pub returns : goal.returns
returns c = fill_by_all (λ k. k) c.from_fn.result 64 0 c.from_fn.ensures.items.long
    (λ k h. let w = c.from_fn.ensures.items.at k 0 h in let e : get_or c.from_fn.result k 0 ≡ k = search rules in e)
