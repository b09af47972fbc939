-- The length of a sheet: drawtrees' buffer has room for the sheet of every script of at most 65,536 bytes (`sheet-fits`).
--
-- An element is longest at its largest numbers. A tree that is drawn has at most 33 or 65 bytes, as many as a setup keeps, and no node's depth or
-- child number exceeds its own number. So columns are at most 984 in the source and 2,366 in the target, and rows at most 560 and 1,072. That is more
-- than a tree's depth of 8 needs, by a digit here and there.
use mathlib.Core.Path.{◌≡◌, refl, sym, ◌∙◌}
use mathlib.Core.Logic.{◌≢◌}
use Prim.Native.Nat.{ℕ, zero, suc, ◌+◌, ◌*◌, ◌≤◌, ◌<◌, max}
use native.Mathlib.Nat.{not-suc-le-zero}
use native.Mathlib.Omega.{arith}
use mathlib.Core.List.{List, [], ◌∷◌, ◌++◌}
use mathlib.Core.Bool.{Bool, true, false, ◌&&◌, cond}
use lib.ListN.{length, get_or, take, length-append, length-take}
use lib.Dec.{eqb, leb, ltb}
use borrow.Author.Tests.{eqb-true, eqb-false}
use Rattle.text.specs.Text.{decimal_last, decimal}
use Rattle.text_templates.specs.Template.{bytes, filled}
use Rattle.text_templates.proofs.Lengths.{filled_most}
use Rattle.topology.specs.Tree.{size}
use Rattle.topology.specs.Reader.{fault, tree}
use Rattle.topology.specs.Branch.{branch_end}
use Rattle.topology.proofs.Lookup.{valid_length, valid_size}
use Rattle.topology_reduction.specs.Reduced.{passed_over}
use Rattle.topology_places.specs.Places.{depth, parent, child_number, trunk_from}
use Rattle.topology_places.specs.declared.Role.{Role}
use Rattle.topology_places.specs.declared.Role.TheVariants.{Plain, Passed, Image, Between, Unused}
use Rattle.topology_places.proofs.Counted.{depth_most, parent_most, number_most, trunk_most}
use Rattle.topology_reading.specs.Accepted.{accepted_bytes}
use Rattle.topology_reading.proofs.FirstFault.{accepted_few}
use Rattle.std.specs.Option.{unwrap_or}
use Rattle.refusal.specs.Numbers.{number}
use Rattle.embedding_model.specs.Least.{search_fault, search_map}
use Rattle.embedding_model.proofs.Search.{search_most, faultless, images_pass}
use Rattle.embedding_diagnosis.specs.Diagnosis.{diagnosis}
use Rattle.embedding_diagnosis.specs.declared.Diagnosis.{Diagnosis}
use Rattle.embedding_diagnosis.specs.declared.Diagnosis.TheVariants.{Loads, Refused as TreeFault, TooDeep, TooManyLeaves, NotTogether}
use Rattle.embedding_diagnosis.proofs.Lacks.{Small, diagnosis-small}
use Rattle.queue_limit.specs.Limit.{limit_fault}
use Rattle.queue_limit.proofs.Limit.{limit_most}
use Rattle.script_setup.specs.Gathering.{gathered}
use Rattle.script_setup.proofs.Endings.{Inside, ends_inside}
use Rattle.script_setup.specs.declared.Ending.{Ending}
use Rattle.script_setup.specs.declared.Ending.TheVariants.{End, Refused, Compile}
use Rattle.drawing_elements.specs.declared.Lack.{Lack}
use Rattle.drawing_elements.specs.declared.Lack.TheVariants.{Depth, Leaves, Room}
use Rattle.drawing_elements.specs.declared.Side.{Side}
use Rattle.drawing_elements.specs.declared.Side.TheVariants.{Source, Chip}
use Rattle.drawing_elements.specs.Elements.{row, opening, head, left_of, label_of, side_name, edge, numbered, mark, class_name, join, legend}
use Rattle.drawing_elements.specs.Elements.{note, refused_end, refusal, nothing, fault_start, fault_lead, fault_words, fault_text}
use Rattle.drawing_elements.specs.Elements.{fault_note, depth_text, leaves_text, room_text, lack_text}
use Rattle.drawing_svg.specs.Sheet.{column, each, edge_of, role_in, node_of, tree_of, join_of, joins_of, pair_of, foot}
use Rattle.drawing_svg.specs.Sheet.{fault_of, fault_sheet, misfit_of, misfit_sheet, mapped_sheet, sheet, sheet_by, script_sheet}
use Rattle.drawing_svg.proofs.Sheet.{unmapped_small}

-- ---- the elements at their largest numbers

opening_most : (rows : ℕ) → rows ≤ 65 → length (opening rows) ≤ length (opening 65)
unfolding opening
opening_most rows h = filled_most _ ((20 + 4 * rows) ∷ (80 + 16 * rows) ∷ []) (280 ∷ 1120 ∷ []) (omega arith, (omega arith, tt)) 0

module _ (right low last : ℕ) where
  edge_most : (x from y child : ℕ) → x ≤ right → from ≤ low → y ≤ low → child ≤ last
      → length (edge x from y child) ≤ length (edge right low low last)
  unfolding edge
  edge_most x from y child a b c d =
      filled_most _ (x ∷ from ∷ y ∷ x ∷ y ∷ child ∷ []) (right ∷ low ∷ low ∷ right ∷ low ∷ last ∷ []) (a, (b, (c, (a, (c, (d, tt)))))) 0

  numbered_most : (x y node : ℕ) → x ≤ right → y ≤ low → node ≤ last → length (numbered x y node) ≤ length (numbered right low last)
  unfolding numbered
  numbered_most x y node a b c =
      filled_most _ (x ∷ y ∷ x ∷ y ∷ node ∷ []) (right ∷ low ∷ right ∷ low ∷ last ∷ []) (a, (b, (a, (b, (c, tt))))) 0

join_most : (x y over down node image : ℕ) → x ≤ 984 → y ≤ 560 → over ≤ 2366 → down ≤ 1072 → node ≤ 32 → image ≤ 64
    → length (join x y over down node image) ≤ length (join 984 560 2366 1072 32 64)
unfolding join
join_most x y over down node image a b c d e f =
    let line = bytes "<g><path d='M#,#m40,0H304L430,#H#'/><text x='#' y='#' dx='12' dy='4'>at #</text>" in
    let beside = bytes "<text x='#' y='#' dx='12' dy='4'>for #</text></g>\n" in
    let from : List ℕ = x ∷ y ∷ down ∷ over ∷ x ∷ y ∷ image ∷ [] in
    let to : List ℕ = over ∷ down ∷ node ∷ [] in
    let far : List ℕ = 984 ∷ 560 ∷ 1072 ∷ 2366 ∷ 984 ∷ 560 ∷ 64 ∷ [] in
    let there : List ℕ = 2366 ∷ 1072 ∷ 32 ∷ [] in
    omega (
      arith,
      length-append {A = ℕ},
      filled_most line from far (a, (b, (d, (c, (a, (b, (f, tt))))))) 0,
      filled_most beside to there (c, (d, (e, tt))) 0,
    )

note_most : (number offset : ℕ) → number ≤ 22 → offset ≤ 65535 → length (note number offset) ≤ length (note 22 65535)
unfolding note
note_most number offset a b = filled_most _ (number ∷ offset ∷ []) (22 ∷ 65535 ∷ []) (a, (b, tt)) 0

-- the lengths of the elements at these numbers
record Largest : Type 0 where
  opening-is : length (opening 65) ≡ 100
  source_edge : length (edge 984 560 560 32) ≡ 75
  target_edge : length (edge 2366 1072 1072 64) ≡ 80
  source_numbered : length (numbered 984 560 32) ≡ 74
  target_numbered : length (numbered 2366 1072 64) ≡ 78
  join_is : length (join 984 560 2366 1072 32 64) ≡ 152
  legend_is : length (filled (bytes "<g class='legend' transform='translate(0,#)'>\n") (1096 ∷ []) 0) ≡ 49
  note_is : length (note 22 65535) ≡ 44
  text_1 : length (filled (bytes " ends before it is complete") (64 ∷ []) 0) ≡ 27
  text_2 : length (filled (bytes " is complete before node #") (64 ∷ []) 0) ≡ 27
  text_3 : length (filled (bytes " is one too many") (64 ∷ []) 0) ≡ 16
  text_4 : length (filled (bytes " has more than 8 children") (64 ∷ []) 0) ≡ 25
  text_5 : length (filled (bytes " lies 9 steps down") (64 ∷ []) 0) ≡ 18
  lead_tree : length (filled (bytes ": the ") (64 ∷ []) 0) ≡ 6
  lead_node : length (filled (bytes ": node # of the ") (64 ∷ []) 0) ≡ 17
  depth_is : length (depth_text 32 32 64) ≡ 51
  leaves_is : length (leaves_text 32 32 64) ≡ 79
  room_is : length (room_text 32) ≡ 52

largest : Largest
unfolding opening edge numbered join note depth_text leaves_text room_text filled decimal decimal_last
largest =
    record {
      opening-is = refl;
      source_edge = refl;
      target_edge = refl;
      source_numbered = refl;
      target_numbered = refl;
      join_is = refl;
      legend_is = refl;
      note_is = refl;
      text_1 = refl;
      text_2 = refl;
      text_3 = refl;
      text_4 = refl;
      text_5 = refl;
      lead_tree = refl;
      lead_node = refl;
      depth_is = refl;
      leaves_is = refl;
      room_is = refl;
    }

legend_most : (rows : ℕ) → rows ≤ 65 → length (legend rows) ≤ 558
unfolding legend
legend_most rows h =
    rw length-append
    (omega (
      arith,
      filled_most (bytes "<g class='legend' transform='translate(0,#)'>\n") ((8 + row rows) ∷ []) (1096 ∷ []) (omega arith, tt) 0,
      largest.legend_is,
    ))

head-length : (rows : ℕ) → rows ≤ 65 → length (head rows) ≤ 730
unfolding head
head-length rows h = rw length-append (omega (arith, opening_most rows h, largest.opening-is))

class_length : (r : Role) → length (class_name r) ≤ 7
class_length Plain = omega arith
class_length Passed = omega arith
class_length Image = omega arith
class_length Between = omega arith
class_length Unused = omega arith

label_length : (side : Side) → length (label_of side) ≤ 51
label_length Source = omega arith
label_length Chip = omega arith

-- ---- a tree

each-length : (text : ℕ → List ℕ) (most n : ℕ) → ((k : ℕ) → k < n → length (text k) ≤ most) → length (each text n) ≤ most * n
each-length text most zero h = omega arith
each-length text most (suc n) h =
    omega (arith, length-append {A = ℕ}, each-length text most n (λ k l. h k (omega arith)), h n (omega arith))

-- A tree with no node behind node `last`: the edge to a node takes at most `line` bytes, and its ellipse with its number at most `spot`, where 23
-- bytes are the ellipse's start with the longest class.
module _ (side : Side) (last line spot : ℕ) (tree images : List ℕ) (from to : ℕ) (few : length tree ≤ suc last)
    (l : length (edge (left_of side + 30 * last) (row last) (row last) last) ≡ line)
    (s : length (numbered (left_of side + 30 * last) (row last) last) + 23 ≡ spot) where
  column_most : (k : ℕ) → k ≤ last → column (left_of side) tree k ≤ left_of side + 30 * last
  column_most k h = omega (arith, depth_most tree k)

  edge-length : (k : ℕ) → k < length tree → length (edge_of (left_of side) tree k) ≤ line
  unfolding edge_of
  edge-length k h = by_test (eqb (depth tree k) 0)
    where
      by_test : (b : Bool)
          → length (cond b [] (edge (column (left_of side) tree (parent tree k)) (row (trunk_from tree k)) (row k) (child_number tree k))) ≤ line
      by_test true = omega arith
      by_test false =
          omega (
            arith,
            edge_most (left_of side + 30 * last) (row last) last (column (left_of side) tree (parent tree k)) (row (trunk_from tree k)) (row k)
                (child_number tree k) (column_most (parent tree k) (omega (arith, parent_most tree k))) (omega (arith, trunk_most tree k))
                (omega arith) (omega (arith, number_most tree k)),
            l,
          )

  mark-length : (class : List ℕ) (k : ℕ) → length class ≤ 7 → k < length tree → length (mark class (column (left_of side) tree k) (row k) k) ≤ spot
  unfolding mark
  mark-length class k n h =
      omega (
        arith,
        length-append {A = ℕ},
        numbered_most (left_of side + 30 * last) (row last) last (column (left_of side) tree k) (row k) k (column_most k (omega arith)) (omega arith)
            (omega arith),
        s,
      )

  node_length : (k : ℕ) → k < length tree → length (node_of side tree images from to k) ≤ spot
  unfolding node_of
  node_length k h = by_test (leb from k && ltb k to)
    where
      by_test : (b : Bool) → length (
          cond b (mark (bytes "fault") (column (left_of side) tree k) (row k) k)
          (mark (class_name (role_in side tree images k)) (column (left_of side) tree k) (row k) k)
          )
          ≤ spot
      by_test true = mark-length (bytes "fault") k (omega arith) h
      by_test false = mark-length (class_name (role_in side tree images k)) k (class_length (role_in side tree images k)) h

  tree-length : length (tree_of side tree images from to) ≤ 56 + line * length tree + spot * length tree
  unfolding tree_of
  tree-length =
      omega (
        arith,
        length-append {A = ℕ},
        label_length side,
        each-length (edge_of (left_of side) tree) line (length tree) edge-length,
        each-length (node_of side tree images from to) spot (length tree) node_length,
      )

source_length : (tree images : List ℕ) (from to : ℕ) → length tree ≤ 33 → length (tree_of Source tree images from to) ≤ 5732
source_length tree images from to h =
    omega (arith, tree-length Source 32 75 97 tree images from to h largest.source_edge (omega (arith, largest.source_numbered)))

chip-length : (tree images : List ℕ) (from to : ℕ) → length tree ≤ 65 → length (tree_of Chip tree images from to) ≤ 11821
chip-length tree images from to h =
    omega (arith, tree-length Chip 64 80 101 tree images from to h largest.target_edge (omega (arith, largest.target_numbered)))

-- ---- both trees

module _ (source target images : List ℕ) (s : length source ≤ 33) (t : length target ≤ 65) (few : length images ≤ length source)
    (nodes : (a : ℕ) → a < length images → get_or images a 0 ≢ passed_over → get_or images a 0 < length target) where
  join-length : (a : ℕ) → a < length images → length (join_of source target a (get_or images a 0)) ≤ 152
  unfolding join_of
  join-length a h = by_test (eqb (get_or images a 0) passed_over) refl
    where
      line-length : (image : ℕ) → image < length target
          → length (join (column 24 source a) (row a) (column 446 target image) (row image) a image) ≤ 152
      line-length image there =
          omega (
            arith,
            join_most (column 24 source a) (row a) (column 446 target image) (row image) a image
                (omega (arith, depth_most source a)) (omega arith) (omega (arith, depth_most target image)) (omega arith) (omega arith) (omega arith),
            largest.join_is,
          )

      by_test : (b : Bool) → eqb (get_or images a 0) passed_over ≡ b
          → length (
          cond b [] (join (column 24 source a) (row a) (column 446 target (get_or images a 0)) (row (get_or images a 0)) a (get_or images a 0))
          )
          ≤ 152
      by_test true q = omega arith
      by_test false q = line-length (get_or images a 0) (nodes a h (eqb-false (get_or images a 0) passed_over q))

  joins_length : length (joins_of source target images) ≤ 23 + 152 * length images
  unfolding joins_of
  joins_length =
      omega (
        arith,
        length-append {A = ℕ},
        each-length (λ a. join_of source target a (get_or images a 0)) 152 (length images) join-length,
      )

  -- 730 bytes for the head, 23 around the lines, 5,732 and 11,821 for the trees, 558 for the legend
  pair_length : (from to : ℕ) → length (pair_of source target images from to) ≤ 18864 + 152 * length images
  unfolding pair_of
  pair_length from to =
      let rows = max (length source) (length target) in
      omega (
        arith,
        length-append {A = ℕ},
        head-length rows (omega arith),
        joins_length,
        source_length source images from to s,
        chip-length target images 0 0 t,
        legend_most rows (omega arith),
      )

-- ---- the whole sheet

refused-length : (number offset : ℕ) → number ≤ 22 → offset < 65536 → length (refused_end number offset) ≤ 59
refused-length number offset h g =
    omega (arith, length-append {A = ℕ}, note_most number offset h (omega arith), largest.note_is)

refusal-length : (number offset : ℕ) → number ≤ 22 → offset < 65536 → length (refusal number offset) ≤ 789
unfolding refusal
refusal-length number offset h g =
    omega (arith, length-append {A = ℕ}, head-length 0 (omega arith), refused-length number offset h g)

side_length : (side : Side) → length (side_name side) ≤ 6
side_length Source = omega arith
side_length Chip = omega arith

lead_length : (number node : ℕ) → node ≤ 64 → length (fault_lead number node) ≤ 17
unfolding fault_lead
lead_length number node h =
    omega (arith, filled_most (fault_start number) (node ∷ []) (64 ∷ []) (h, tt) 0, by_test (leb number 2))
  where
    by_test : (b : Bool) → length (filled (cond b (bytes ": the ") (bytes ": node # of the ")) (64 ∷ []) 0) ≤ 17
    by_test true = omega (arith, largest.lead_tree)
    by_test false = omega (arith, largest.lead_node)

text-length : (number node : ℕ) → node ≤ 64 → length (fault_text number node) ≤ 27
unfolding fault_text
text-length number node h =
    omega (
      arith,
      filled_most (fault_words number) (node ∷ []) (64 ∷ []) (h, tt) 0,
      by_tests (eqb number 1) (eqb number 2) (eqb number 3) (eqb number 4),
    )
  where
    by_tests : (w x y z : Bool)
        → length (
        filled
        (
        cond w (bytes " ends before it is complete")
        (cond x (bytes " is complete before node #")
        (cond y (bytes " is one too many")
        (cond z (bytes " has more than 8 children") (bytes " lies 9 steps down"))))
        )
        (64 ∷ []) 0
        )
        ≤ 27
    by_tests true x y z = omega (arith, largest.text_1)
    by_tests false true y z = omega (arith, largest.text_2)
    by_tests false false true z = omega (arith, largest.text_3)
    by_tests false false false true = omega (arith, largest.text_4)
    by_tests false false false false = omega (arith, largest.text_5)

fault-note-length : (side : Side) (number offset node : ℕ) → number ≤ 22 → offset < 65536 → node ≤ 64
    → length (fault_note side number offset node) ≤ 109
unfolding fault_note
fault-note-length side number offset node small h g =
    omega (
      arith,
      length-append {A = ℕ},
      note_most number offset small (omega arith),
      largest.note_is,
      lead_length number node g,
      side_length side,
      text-length number node g,
    )

-- 730 bytes for the head, 558 for the legend, and 109 for the note
module _ (side : Side) (limit : ℕ) (tree : List ℕ) (number offset : ℕ) (few : limit ≤ 64) (small : number ≤ 22) (h : offset < 65536) where
  part_length : length (take (suc (accepted_bytes limit tree)) tree) ≤ suc limit
  part_length = omega (arith, length-take (suc (accepted_bytes limit tree)) tree, accepted_few limit tree)

  fault-length : (most : ℕ)
      → length (tree_of side (take (suc (accepted_bytes limit tree)) tree) [] (accepted_bytes limit tree) (suc (accepted_bytes limit tree))) ≤ most
      → length (fault_of side limit tree number offset) ≤ 1397 + most
  unfolding fault_of
  fault-length most t =
      let n = accepted_bytes limit tree in
      let part = take (suc n) tree in
      omega (
        arith,
        length-append {A = ℕ},
        head-length (length part) (omega (arith, part_length)),
        t,
        legend_most (length part) (omega (arith, part_length)),
        fault-note-length side number offset n small h (omega (arith, accepted_few limit tree)),
      )

fault-sheet-length : (source target : List ℕ) (number offset : ℕ) → number ≤ 22 → offset < 65536
    → length (fault_sheet source target number offset) ≤ 13218
fault-sheet-length source target number offset small h = by_test (eqb (fault 32 source) 0)
  where
    by_test : (b : Bool) → length (cond b (fault_of Chip 64 target number offset) (fault_of Source 32 source number offset)) ≤ 13218
    by_test true =
        fault-length Chip 64 target number offset (omega arith) small h 11821
        (chip-length (take (suc (accepted_bytes 64 target)) target) [] (accepted_bytes 64 target) (suc (accepted_bytes 64 target))
        (part_length Chip 64 target number offset (omega arith) small h))
    by_test false =
        omega (
          arith,
          fault-length Source 32 source number offset (omega arith) small h 5732
              (source_length (take (suc (accepted_bytes 32 source)) source) [] (accepted_bytes 32 source) (suc (accepted_bytes 32 source))
              (part_length Source 32 source number offset (omega arith) small h)),
        )

-- ---- a pair without a map

three_most : (template : List ℕ) (node needed there : ℕ) → node ≤ 32 → needed ≤ 32 → there ≤ 64
    → length (filled template (node ∷ needed ∷ there ∷ []) 0) ≤ length (filled template (32 ∷ 32 ∷ 64 ∷ []) 0)
three_most template node needed there a b c = filled_most template (node ∷ needed ∷ there ∷ []) (32 ∷ 32 ∷ 64 ∷ []) (a, (b, (c, tt))) 0

depth-length : (node needed there : ℕ) → node ≤ 32 → needed ≤ 32 → there ≤ 64 → length (depth_text node needed there) ≤ length (depth_text 32 32 64)
unfolding depth_text
depth-length node needed there a b c = three_most _ node needed there a b c

leaves-length : (node needed there : ℕ) → node ≤ 32 → needed ≤ 32 → there ≤ 64
    → length (leaves_text node needed there) ≤ length (leaves_text 32 32 64)
unfolding leaves_text
leaves-length node needed there a b c = three_most _ node needed there a b c

room-length : (node : ℕ) → node ≤ 32 → length (room_text node) ≤ length (room_text 32)
unfolding room_text
room-length node a = filled_most _ (node ∷ []) (32 ∷ []) (a, tt) 0

module _ (source target : List ℕ) (offset : ℕ) (s : length source ≤ 32) (t : length target ≤ 64) (h : offset < 65536) where
  -- the two trees, 44 bytes for the start of the note, and 15 for its end
  misfit_length : (node : ℕ) (lack : Lack) → length (lack_text node lack) ≤ 79 → length (misfit_of source target node lack offset) ≤ 19002
  unfolding misfit_of
  misfit_length node lack g =
      let end = branch_end source node in
      let pair = pair_length source target [] (omega (arith, s)) (omega (arith, t)) (omega arith) (λ a l m. absurd (not-suc-le-zero l)) node end in
      omega (arith, length-append {A = ℕ}, pair, note_most 12 offset (omega arith) (omega arith), largest.note_is)

  misfit-length : (d : Diagnosis) → Small (length source) (length target) d → length (misfit_sheet d source target offset) ≤ 19002
  misfit-length Loads small = omega (arith, refusal-length 12 offset (omega arith) h)
  misfit-length (TreeFault f) small = omega (arith, refusal-length 12 offset (omega arith) h)
  misfit-length (TooDeep node needed there) small =
      let text = depth-length node needed there (omega (arith, small, s)) (omega (arith, small, s)) (omega (arith, small, t)) in
      misfit_length node (Depth needed there) (omega (arith, text, largest.depth_is))
  misfit-length (TooManyLeaves node needed there) small =
      let text = leaves-length node needed there (omega (arith, small, s)) (omega (arith, small, s)) (omega (arith, small, t)) in
      misfit_length node (Leaves needed there) (omega (arith, text, largest.leaves_is))
  misfit-length (NotTogether node) small = misfit_length node Room (omega (arith, room-length node (omega (arith, small, s)), largest.room_is))

nothing-length : length nothing ≤ 793
unfolding nothing
nothing-length = rw length-append (omega (arith, head-length 0 (omega arith)))

module _ (source target : List ℕ) (limit offset : ℕ) (h : offset < 65536) where
  abbrev images : List ℕ
  images = take (length source) (search_map source target)

  mapped_length : search_fault source target ≡ 0 → length (mapped_sheet source target images limit offset) ≤ 23735
  mapped_length found = by_test (eqb (limit_fault limit) 0)
    where
      both : length (pair_of source target images 0 0 ++ foot) ≤ 23735
      both =
          let fine = faultless source target found in
          let E = images_pass source target found in
          let s = valid_length 32 source fine.0 in
          let few : length images ≡ length source = E.long ∙ valid_size 32 source fine.0 in
          let nodes : (a : ℕ) → a < length images → get_or images a 0 ≢ passed_over → get_or images a 0 < length target =
          λ a l n. let node : a < size (tree source) = omega (arith, E.long) in
          omega (arith, E.within a node (λ w. n (E.passed a node w)), valid_size 64 target fine.1) in
          let pair = pair_length source target images (omega (arith, s)) (omega (arith, valid_length 64 target fine.1)) (omega arith) nodes 0 0 in
          omega (arith, length-append {A = ℕ}, pair, s, few)

      by_test : (b : Bool) → length (cond b (pair_of source target images 0 0 ++ foot) (refusal (limit_fault limit) offset)) ≤ 23735
      by_test true = both
      by_test false = omega (arith, refusal-length (limit_fault limit) offset (omega (arith, limit_most limit)) h)

  unmapped_length : search_fault source target ≡ 12 → length (misfit_sheet (diagnosis source target) source target offset) ≤ 23735
  unmapped_length q =
      let small = unmapped_small source target (sym q) in
      omega (arith, misfit-length source target offset small.0 small.1 h (diagnosis source target) (diagnosis-small source target))

  sheet-length : length (sheet source target limit offset) ≤ 23735
  unfolding sheet
  sheet-length = by_tests (eqb (search_fault source target) 0) (eqb (search_fault source target) 12) refl refl
    where
      by_tests : (a b : Bool) → eqb (search_fault source target) 0 ≡ a → eqb (search_fault source target) 12 ≡ b
          → length (
          cond a (mapped_sheet source target images limit offset)
          (cond b (misfit_sheet (diagnosis source target) source target offset) (fault_sheet source target (search_fault source target) offset))
          )
          ≤ 23735
      by_tests true b e d = mapped_length (eqb-true (search_fault source target) 0 e)
      by_tests false true e d = unmapped_length (eqb-true (search_fault source target) 12 d)
      by_tests false false e d =
          omega (arith, fault-sheet-length source target (search_fault source target) offset (omega (arith, search_most source target)) h)

-- No sheet is longer than 23,735 bytes.
pub sheet-fits : (script : List ℕ) → length script ≤ 65536 → length (script_sheet script) ≤ 23735
unfolding script_sheet
sheet-fits script h = by_ending (gathered script).ending (ends_inside script)
  where
    by_ending : (e : Ending) → Inside (length script) e → length (sheet_by e (gathered script)) ≤ 23735
    by_ending End i = omega (arith, nothing-length)
    by_ending (Refused r offset) i = omega (arith, refusal-length (number r) offset i.0 (omega (arith, i.1)))
    by_ending (Compile at) i =
        sheet-length (gathered script).source (gathered script).target (unwrap_or (gathered script).limit 0) at (omega (arith, i))
