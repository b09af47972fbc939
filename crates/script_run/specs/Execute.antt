-- What each command of a script does (paper 01, "Scripts for gatewalk"). The stage is what a script has come to: before 04 two drawings and a limit;
-- after it the source's machine, whose answers are also those of the chip's tree (crate `pair_step`), and the steps gathered for the next push.
use Rattle.std.specs.Prelude.{ℕ, zero, suc, List, [], ◌∷◌, ◌++◌, Option, None, Some, Bool, false, not, ◌&&◌, cond, length, take, leb, ltb}
use Rattle.topology.specs.Reader.{tree}
use Rattle.pifo_model.specs.Tree.{Step, step}
use Rattle.pifo_model.specs.Machine.{Machine, Answer, accepted, departed, refused, full, pushing, popping, serve, opened}
use Rattle.embedding_model.specs.Least.{search_map}
use Rattle.queue_state.specs.State.{Packet}
use Rattle.pair_state.specs.Opening.{both_fault}
use Rattle.script_commands.specs.declared.Command.{Command}
use Rattle.script_commands.specs.declared.Command.TheVariants.{Setup, Compile, Call}
use Rattle.script_commands.specs.declared.Setup.TheVariants.{Source, Target, Limit}
use Rattle.script_commands.specs.declared.Call.TheVariants.{Step as StepTo, Push, Pop}

pub data Stage : Type 0 where
  -- before 04: the bytes of the source and of the target, and the limit once it is given
  drawing : List ℕ → List ℕ → Option ℕ → Stage
  -- after it
  serving : Machine Packet → List Step → Stage

-- The reply to a command: nothing, the images of a map, the packets held after a push, the packet that departs, or a refusal.
pub data Reply : Type 0 where
  silent : Reply
  mapped : List ℕ → Reply
  entered : ℕ → Reply
  left : Packet → Reply
  refused_by : ℕ → Reply

-- after 13 to 16 the script goes on, after any other refusal it stops
abbrev pub stops : Reply → Bool
stops (refused_by n) = not (leb 13 n && leb n 16)
stops silent = false
stops (mapped m) = false
stops (entered n) = false
stops (left p) = false

-- a command out of turn, which is paper 01's word for one that may not come at this stage: refusal 22
abbrev pub out_of_turn : Stage → Reply × Stage
out_of_turn stage = (refused_by 22, stage)

-- 04, by the number of its refusal: the images of the source's nodes, and the source's machine opened empty
abbrev pub compiled : ℕ → List ℕ → List ℕ → ℕ → Reply × Stage
compiled zero source target limit =
    (mapped (take (length source) (search_map source target)), serving (opened (tree source) limit) [])
compiled (suc f) source target limit = (refused_by (suc f), drawing source target (Some limit))

-- the answer of the machine as a reply
abbrev pub replied : Answer Packet → Reply
replied (accepted h) = entered h
replied (departed p) = left p
replied (refused n) = refused_by n
replied (full n c) = refused_by n

abbrev pub served : Answer Packet × Machine Packet → List Step → Reply × Stage
served (a, m) steps = (replied a, serving m steps)

-- The reply to a command, and the stage after it. Before 04 a second limit, an 04 without a limit and any call are out of turn; after it every
-- command but a call, and a ninth step.
unfoldable pub execute : Stage → Command → Reply × Stage
execute (drawing s t l) (Setup (Source b)) = (silent, drawing (s ++ (b ∷ [])) t l)
execute (drawing s t l) (Setup (Target b)) = (silent, drawing s (t ++ (b ∷ [])) l)
execute (drawing s t None) (Setup (Limit n)) = (silent, drawing s t (Some n))
execute (drawing s t (Some m)) (Setup (Limit n)) = out_of_turn (drawing s t (Some m))
execute (drawing s t None) Compile = out_of_turn (drawing s t None)
execute (drawing s t (Some n)) Compile = compiled (both_fault s t n) s t n
execute (drawing s t l) (Call c) = out_of_turn (drawing s t l)
execute (serving m steps) (Setup c) = out_of_turn (serving m steps)
execute (serving m steps) Compile = out_of_turn (serving m steps)
execute (serving m steps) (Call (StepTo i r)) =
    cond (ltb (length steps) 8) (silent, serving m (steps ++ (step i r ∷ []))) (out_of_turn (serving m steps))
execute (serving m steps) (Call (Push p r)) = served (serve m (pushing steps r p)) []
execute (serving m steps) (Call Pop) = served (serve m popping) steps
