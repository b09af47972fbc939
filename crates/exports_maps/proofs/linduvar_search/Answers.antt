use Rattle.std.proofs.Common.{rules, refl, ◌∙◌}
use Rattle.refusal.proofs.Numbers.{number-ne0}
use Rattle.exports_maps.proofs.Search.{search-refused, search_no_room, search-room}
use Rattle.exports_maps.proofs.linduvar_search.Goals as goal

pub returns-in-Some : goal.returns-in-Some
returns-in-Some c =
    let found = c.in-Ok.ensures.answer in
    search-room _ _ _ found.number (search rules) _ _ found.map refl

pub returns-in-None : goal.returns-in-None
returns-in-None c = search_no_room _ _ _ c.in-Ok.ensures.answer.number (search rules)

pub returns-in-Err : goal.returns-in-Err
returns-in-Err c =
    let number = c.into.ensures ∙ c.in-Err.ensures.answer.number in
    search-refused _ _ _ _ number (λ z. number-ne0 c.in-Err.refusal (search rules))
