-- The elements of a sheet, each a template and its numbers, and the sheets that show no tree. A unit of length is a quarter of a millimetre.
use Rattle.std.specs.Prelude.{ℕ, ◌+◌, ◌*◌, cond, List, [], ◌∷◌, ◌++◌, eqb, leb}
use Rattle.text_templates.specs.Template.{bytes, filled}
use Rattle.drawing_elements.specs.declared.Side.{Side}
use Rattle.drawing_elements.specs.declared.Side.TheVariants.{Source, Chip}
use Rattle.drawing_elements.specs.declared.Lack.{Lack}
use Rattle.drawing_elements.specs.declared.Lack.TheVariants.{Depth, Leaves, Room}
use Rattle.topology_places.specs.declared.Role.{Role}
use Rattle.topology_places.specs.declared.Role.TheVariants.{Plain, Passed, Image, Between, Unused}

-- the row of a node, by its number
abbrev pub row : ℕ → ℕ
row k = 48 + 16 * k

-- the start of a sheet with a number of rows: its height in millimetres and in units
unfoldable pub opening : ℕ → List ℕ
opening rows =
    filled (bytes "<svg xmlns='http://www.w3.org/2000/svg' width='190mm' height='#mm' viewBox='0 0 760 #'><style>\n")
    ((20 + 4 * rows) ∷ (80 + 16 * rows) ∷ []) 0

-- the head of a sheet: its start, the styles of its parts, and a white ground
unfoldable pub head : ℕ → List ℕ
head rows =
    opening rows
    ++ (bytes "text{font:10px sans-serif;text-anchor:middle}path{fill:none;stroke:black}ellipse{fill:white;stroke:black}\n"
    ++ (bytes ".label,.note{font-size:12px}.label,.note,.joins text,.legend text{text-anchor:start}\n"
    ++ (bytes ".joins g{color:midnightblue}.joins g:nth-child(3n){color:maroon}.joins g:nth-child(3n+1){color:darkgreen}\n"
    ++ (bytes ".joins path{stroke:currentColor}.joins text{fill:currentColor}.fault{fill:firebrick;stroke:none}.fault+text{fill:white}\n"
    ++ (bytes ".passed{stroke-dasharray:1 2}.image{fill:lightcyan;stroke-width:2}.between{stroke-dasharray:4 2}.unused{fill:lightgrey;stroke:none}\n"
    ++ bytes ".legend text{fill:black}</style><rect width='100%' height='100%' fill='white'/>\n")))))

-- The two sides of a sheet: where the root stands, the label above it, and the side's name.
abbrev pub left_of : Side → ℕ
left_of Source = 24
left_of Chip = 446

abbrev pub label_of : Side → List ℕ
label_of Source = bytes "<g><text class='label' x='24' y='32'>source</text>\n"
label_of Chip = bytes "<g><text class='label' x='446' y='32'>chip</text>\n"

abbrev pub side_name : Side → List ℕ
side_name Source = bytes "source"
side_name Chip = bytes "chip"

-- The edge to a node in row y: from row `from` down the trunk at x, and right to the node; and the node's child number at it.
unfoldable pub edge : ℕ → ℕ → ℕ → ℕ → List ℕ
edge x from y child =
    filled (bytes "<path d='M#,#V#h30'/><text x='#' y='#' dx='12' dy='-2'>#</text>\n") (x ∷ from ∷ y ∷ x ∷ y ∷ child ∷ []) 0

-- an ellipse at x and y with a node's number in it, without the beginning up to the ellipse's class
unfoldable pub numbered : ℕ → ℕ → ℕ → List ℕ
numbered x y node =
    filled (bytes "' cx='#' cy='#' rx='9' ry='7'/><text x='#' y='#' dy='4'>#</text>\n") (x ∷ y ∷ x ∷ y ∷ node ∷ []) 0

-- a node at x and y: an ellipse of a class with the node's number in it
unfoldable pub mark : List ℕ → ℕ → ℕ → ℕ → List ℕ
mark class x y node = bytes "<ellipse class='" ++ (class ++ numbered x y node)

-- the class of a node by its role
abbrev pub class_name : Role → List ℕ
class_name Plain = bytes "plain"
class_name Passed = bytes "passed"
class_name Image = bytes "image"
class_name Between = bytes "between"
class_name Unused = bytes "unused"

-- The line from a source node at x and y to its image on the chip, at `over` and `down`, with the image's number beside the node and the node's
-- number beside the image.
unfoldable pub join : ℕ → ℕ → ℕ → ℕ → ℕ → ℕ → List ℕ
join x y over down node image =
    filled (bytes "<g><path d='M#,#m40,0H304L430,#H#'/><text x='#' y='#' dx='12' dy='4'>at #</text>") (x ∷ y ∷ down ∷ over ∷ x ∷ y ∷ image ∷ []) 0
    ++ filled (bytes "<text x='#' y='#' dx='12' dy='4'>for #</text></g>\n") (over ∷ down ∷ node ∷ []) 0

-- the looks of nodes with their words, behind the last row
unfoldable pub legend : ℕ → List ℕ
legend rows =
    filled (bytes "<g class='legend' transform='translate(0,#)'>\n") ((8 + row rows) ∷ []) 0
    ++ (bytes "<ellipse class='plain' cx='24' rx='9' ry='7'/><text x='37' dy='4'>node</text>\n"
    ++ (bytes "<ellipse class='passed' cx='94' rx='9' ry='7'/><text x='107' dy='4'>passed over</text>\n"
    ++ (bytes "<ellipse class='image' cx='198' rx='9' ry='7'/><text x='211' dy='4'>image</text>\n"
    ++ (bytes "<ellipse class='between' cx='273' rx='9' ry='7'/><text x='286' dy='4'>above an image</text>\n"
    ++ (bytes "<ellipse class='unused' cx='394' rx='9' ry='7'/><text x='407' dy='4'>unused</text>\n"
    ++ bytes "<ellipse class='fault' cx='474' rx='9' ry='7'/><text x='487' dy='4'>see note</text></g>\n")))))

-- the start of a note: a refusal's number, and the offset of the command refused
unfoldable pub note : ℕ → ℕ → List ℕ
note number offset = filled (bytes "<text class='note' x='24' y='14'>no # #") (number ∷ offset ∷ []) 0

-- the end of a sheet with a note
abbrev pub note_end : List ℕ
note_end = bytes "</text>\n</svg>\n"

-- the end of a sheet with a refusal
abbrev pub refused_end : ℕ → ℕ → List ℕ
refused_end number offset = note number offset ++ note_end

-- the sheet of a refusal alone
unfoldable pub refusal : ℕ → ℕ → List ℕ
refusal number offset = head 0 ++ refused_end number offset

-- the sheet of a script that ends before 04
unfoldable pub nothing : List ℕ
nothing = head 0 ++ bytes "<text class='note' x='24' y='14'>nothing to draw</text>\n</svg>\n"

-- What is wrong with a tree's bytes, by the number of the refusal: the words before the tree's name, and those after it. `#` stands for the node of
-- the byte at fault.
abbrev pub fault_start : ℕ → List ℕ
fault_start number = cond (leb number 2) (bytes ": the ") (bytes ": node # of the ")

abbrev pub fault_words : ℕ → List ℕ
fault_words number =
    cond (eqb number 1) (bytes " ends before it is complete")
    (cond (eqb number 2) (bytes " is complete before node #")
    (cond (eqb number 3) (bytes " is one too many")
    (cond (eqb number 4) (bytes " has more than 8 children") (bytes " lies 9 steps down"))))

unfoldable pub fault_lead : ℕ → ℕ → List ℕ
fault_lead number node = filled (fault_start number) (node ∷ []) 0

unfoldable pub fault_text : ℕ → ℕ → List ℕ
fault_text number node = filled (fault_words number) (node ∷ []) 0

-- the refusal of a tree at fault, in words, and the end of the sheet
unfoldable pub fault_note : Side → ℕ → ℕ → ℕ → List ℕ
fault_note side number offset node = note number offset ++ (fault_lead number node ++ (side_name side ++ (fault_text number node ++ note_end)))

-- What the branch under a node lacks that fits nowhere on the chip: depth for a leaf, leaves, or room for the branches below it.
unfoldable pub depth_text : ℕ → ℕ → ℕ → List ℕ
depth_text node needed there = filled (bytes ": node # needs # levels above it, the chip has #") (node ∷ needed ∷ there ∷ []) 0

unfoldable pub leaves_text : ℕ → ℕ → ℕ → List ℕ
leaves_text node needed there =
    filled (bytes ": the branch of node # has # leaves, a chip branch where it may go at most #") (node ∷ needed ∷ there ∷ []) 0

unfoldable pub room_text : ℕ → List ℕ
room_text node = filled (bytes ": the branches below node # do not fit side by side") (node ∷ []) 0

-- the words for each lack
abbrev pub lack_text : ℕ → Lack → List ℕ
lack_text node (Depth needed there) = depth_text node needed there
lack_text node (Leaves needed there) = leaves_text node needed there
lack_text node Room = room_text node
