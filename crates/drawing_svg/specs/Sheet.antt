-- The sheet of a pair of trees, the SVG page that drawtrees draws, byte by byte, as a definition over the trees' bytes: the source on the left, the
-- chip on the right, a row for each node number and a column for each step below the root.
use Rattle.std.specs.Prelude.{ℕ, zero, suc, ◌+◌, ◌*◌, max, List, [], ◌++◌, ◌&&◌, cond, length, get_or, take, eqb, leb, ltb}
use Rattle.std.specs.Option.{unwrap_or}
use Rattle.topology.specs.Reader.{fault}
use Rattle.topology.specs.Branch.{branch_end}
use Rattle.refusal.specs.Numbers.{number}
use Rattle.topology_reduction.specs.Reduced.{passed_over}
use Rattle.embedding_model.specs.Least.{search_fault, search_map}
use Rattle.queue_limit.specs.Limit.{limit_fault}
use Rattle.embedding_diagnosis.specs.Diagnosis.{diagnosis}
use Rattle.embedding_diagnosis.specs.declared.Diagnosis.{Diagnosis}
use Rattle.embedding_diagnosis.specs.declared.Diagnosis.TheVariants.{Loads, Refused as TreeFault, TooDeep, TooManyLeaves, NotTogether}
use Rattle.script_setup.specs.Gathering.{Given, gathered}
use Rattle.script_setup.specs.declared.Ending.{Ending}
use Rattle.script_setup.specs.declared.Ending.TheVariants.{End, Refused, Compile}
use Rattle.topology_places.specs.Places.{depth, parent, child_number, trunk_from, source_role, role_of}
use Rattle.topology_places.specs.declared.Role.{Role}
use Rattle.topology_reading.specs.Accepted.{accepted_bytes}
use Rattle.text_templates.specs.Template.{bytes}
use Rattle.drawing_elements.specs.declared.Lack.{Lack}
use Rattle.drawing_elements.specs.declared.Lack.TheVariants.{Depth, Leaves, Room}
use Rattle.drawing_elements.specs.declared.Side.{Side}
use Rattle.drawing_elements.specs.declared.Side.TheVariants.{Source, Chip}
use Rattle.drawing_elements.specs.Elements.{row, left_of, label_of, head, edge, mark, class_name, join, legend}
use Rattle.drawing_elements.specs.Elements.{note, note_end, refusal, nothing, fault_note, lack_text}

-- the column of a node in the tree whose root is at `left`
abbrev pub column : ℕ → List ℕ → ℕ → ℕ
column left tree k = left + 30 * depth tree k

-- the texts of the numbers below n, joined
abbrev pub each : (ℕ → List ℕ) → ℕ → List ℕ
each text zero = []
each text (suc n) = each text n ++ text n

-- The edge to node k, with its child number, down its parent's trunk from the node before it. A node with none above it has no edge.
unfoldable pub edge_of : ℕ → List ℕ → ℕ → List ℕ
edge_of left tree k =
    let x = column left tree (parent tree k) in
    let line = edge x (row (trunk_from tree k)) (row k) (child_number tree k) in
    cond (eqb (depth tree k) 0) [] line

-- the role of node k on its side of the sheet
abbrev pub role_in : Side → List ℕ → List ℕ → ℕ → Role
role_in Source tree images k = source_role (get_or tree k 0)
role_in Chip tree images k = role_of tree images k

-- node k of a tree: marked if it is one of the nodes `from` to `to` - 1, else in the style of its role
unfoldable pub node_of : Side → List ℕ → List ℕ → ℕ → ℕ → ℕ → List ℕ
node_of side tree images from to k =
    let x = column (left_of side) tree k in
    let plain = mark (class_name (role_in side tree images k)) x (row k) k in
    cond (leb from k && ltb k to) (mark (bytes "fault") x (row k) k) plain

-- A tree with its label: all edges, then all nodes, which cover the ends of the edges.
unfoldable pub tree_of : Side → List ℕ → List ℕ → ℕ → ℕ → List ℕ
tree_of side tree images from to =
    label_of side
    ++ (each (edge_of (left_of side) tree) (length tree) ++ (each (node_of side tree images from to) (length tree) ++ bytes "</g>\n"))

-- the line from a source node to its image; none from a node that is passed over
unfoldable pub join_of : List ℕ → List ℕ → ℕ → ℕ → List ℕ
join_of source target a image =
    cond (eqb image passed_over) [] (join (column (left_of Source) source a) (row a) (column (left_of Chip) target image) (row image) a image)

unfoldable pub joins_of : List ℕ → List ℕ → List ℕ → List ℕ
joins_of source target images =
    bytes "<g class='joins'>\n" ++ (each (λ a. join_of source target a (get_or images a 0)) (length images) ++ bytes "</g>\n")

-- Both trees, and the lines from the source's nodes to their images; without a map there are no such lines. The source's nodes `from` to `to` - 1
-- are marked.
unfoldable pub pair_of : List ℕ → List ℕ → List ℕ → ℕ → ℕ → List ℕ
pair_of source target images from to =
    let rows = max (length source) (length target) in
    head rows
    ++ (joins_of source target images ++ (tree_of Source source images from to ++ (tree_of Chip target images 0 0 ++ legend rows)))

abbrev pub foot : List ℕ
foot = bytes "</svg>\n"

-- A tree at fault, as far as it was read (`accepted_bytes`), with the byte at fault marked in its row; and the refusal, in words. Where the bytes end
-- too early there is no such byte.
unfoldable pub fault_of : Side → ℕ → List ℕ → ℕ → ℕ → List ℕ
fault_of side limit tree number offset =
    let n = accepted_bytes limit tree in
    let part = take (suc n) tree in
    head (length part) ++ (tree_of side part [] n (suc n) ++ (legend (length part) ++ fault_note side number offset n))

-- the sheet of the tree at fault, the source first
abbrev pub fault_sheet : List ℕ → List ℕ → ℕ → ℕ → List ℕ
fault_sheet source target number offset =
    let chip = fault_of Chip 64 target number offset in
    cond (eqb (fault 32 source) 0) chip (fault_of Source 32 source number offset)

-- Both trees without a map, with the branch under a source node marked that fits nowhere; and a note with refusal 12 and what the branch lacks.
unfoldable pub misfit_of : List ℕ → List ℕ → ℕ → Lack → ℕ → List ℕ
misfit_of source target node lack offset =
    pair_of source target [] node (branch_end source node) ++ (note 12 offset ++ (lack_text node lack ++ note_end))

-- The sheet of a pair without a map, by why there is none. The first two cases do not occur without a map.
abbrev pub misfit_sheet : Diagnosis → List ℕ → List ℕ → ℕ → List ℕ
misfit_sheet Loads source target offset = refusal 12 offset
misfit_sheet (TreeFault n) source target offset = refusal 12 offset
misfit_sheet (TooDeep node needed there) source target offset = misfit_of source target node (Depth needed there) offset
misfit_sheet (TooManyLeaves node needed there) source target offset = misfit_of source target node (Leaves needed there) offset
misfit_sheet (NotTogether node) source target offset = misfit_of source target node Room offset

-- Both trees with a map; or the limit's refusal alone.
abbrev pub mapped_sheet : List ℕ → List ℕ → List ℕ → ℕ → ℕ → List ℕ
mapped_sheet source target images limit offset =
    cond (eqb (limit_fault limit) 0) (pair_of source target images 0 0 ++ foot) (refusal (limit_fault limit) offset)

-- The sheet by the number of the search's refusal: both trees with the least map (0), both trees and why there is none (12), or the tree at fault.
abbrev pub searched_sheet : ℕ → List ℕ → List ℕ → ℕ → ℕ → List ℕ
searched_sheet n source target limit offset =
    let mapped = mapped_sheet source target (take (length source) (search_map source target)) limit offset in
    let unmapped = misfit_sheet (diagnosis source target) source target offset in
    cond (eqb n 0) mapped (cond (eqb n 12) unmapped (fault_sheet source target n offset))

-- the sheet of the 04 at `offset`
unfoldable pub sheet : List ℕ → List ℕ → ℕ → ℕ → List ℕ
sheet source target limit offset = searched_sheet (search_fault source target) source target limit offset

-- the sheet of a setup, by how it ends; a limit that it does not give counts as 0
abbrev pub sheet_by : Ending → Given → List ℕ
sheet_by End g = nothing
sheet_by (Refused r offset) g = refusal (number r) offset
sheet_by (Compile at) g = sheet g.source g.target (unwrap_or g.limit 0) at

-- The sheet of a script, by how its setup ends: of its 04, of a refusal before that, or of nothing.
unfoldable pub script_sheet : List ℕ → List ℕ
script_sheet script = sheet_by (gathered script).ending (gathered script)
