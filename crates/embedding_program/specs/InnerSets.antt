-- Sets of the children of one node, and lists of their images, as numbers. Places count from 0 at the last child, so that the first
-- child has the highest place: the order of the numbers is then the order of the lists of images.
use Rattle.std.specs.Prelude.{ℕ, zero, suc, ◌+◌, ◌*◌, ◌-◌, ◌/◌, ◌%◌, List, [], ◌∷◌, Bool, true, false}

-- the number of a set: place i has the value 2 to the i
abbrev pub power : ℕ → ℕ
power zero = 1
power (suc i) = 2 * power i

abbrev pub number : List Bool → ℕ
number [] = 0
number (true ∷ bs) = 1 + 2 * number bs
number (false ∷ bs) = 2 * number bs

-- The set with h others before it among those that contain the child of the given power, in the order of their numbers. In this order `pow` sets
-- without the child and `pow` sets with it alternate.
abbrev pub holding : ℕ → ℕ → ℕ
holding pow h = h * 2 - h % pow + pow

-- the number of a list of images, each below 64: place i has the value 64 to the i
abbrev pub weight : ℕ → ℕ
weight zero = 1
weight (suc i) = 64 * weight i

abbrev pub pack : List ℕ → ℕ
pack [] = 0
pack (y ∷ ys) = y + 64 * pack ys

-- the image at a place
abbrev pub digit : ℕ → ℕ → ℕ
digit zero v = v % 64
digit (suc i) v = digit i (v / 64)

-- the number for no list of images: greater than that of any list of 8
abbrev pub no_images : ℕ
no_images = 281474976710656
