-- `put_sheet` meets its contract: the cases of how the setup ends.
use Rattle.drawing_svg.specs.Sheet.{script_sheet}
use Rattle.drawing_svg.proofs.Sheet.{sheet-kept}
use Rattle.drawing_svg.proofs.put_sheet.Goals as goal

pub returns-in-End : goal.returns-in-End
unfolding script_sheet
returns-in-End c = rw (← c.gathered_of-drawing.ensures.ending, c.in-End.is) c.draw_nothing.ensures

pub returns-in-Refused : goal.returns-in-Refused
unfolding script_sheet
returns-in-Refused c = rw (← c.gathered_of-drawing.ensures.ending, c.in-Refused.is, ← c.into.ensures) c.draw_refusal.ensures

pub returns-in-Compile : goal.returns-in-Compile
unfolding script_sheet
returns-in-Compile c =
    let setup = c.gathered_of-drawing.ensures in
    rw (
      ← setup.ending,
      c.in-Compile.is,
      ← (sheet-kept _ _ _ _),
      ← setup.draws.source,
      ← setup.draws.target,
      ← setup.draws.limit,
    )
    c.draw.ensures
