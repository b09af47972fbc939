-- The stack of `leaves_needed`. The definition `tree` takes the bytes from the last to the first, and gives each node the first trees behind it as
-- its children; the loop does the same with the numbers that the trees need. For the bytes of a tree there are always as many trees as a byte
-- requires (`Ready`), by induction over the tree.
use Rattle.std.proofs.Common.{◌≡◌, ℕ, zero, suc, ◌+◌, ◌-◌, ◌^◌, ◌≤◌, ◌<◌, List, [], ◌∷◌, ◌++◌, length, take, drop, get_or, refl, sym, ap, ◌∙◌}
use Rattle.std.proofs.Common.{append_assoc, arith, length-append, length-take, length-drop, take-append-drop, drop-cons}
use Rattle.std.proofs.Math.Nat.{mul-le-mul_right}
use Rattle.std.proofs.Math.Seq.{drop-length, get_or-append_seam, take-append_seam}
use Rattle.std.proofs.lemmas.List.{append-nil, reverse-append, length-reverse, take_at, drop_at, get_or-take, take-take}
use Rattle.std.proofs.lemmas.List.Sorted.{sum_by-IsPermutation, IsPermutation-reverse}
use Rattle.std.proofs.lemmas.List.Recursion.{is_sum_by}
use Rattle.std.specs.List.{sum as std_sum}
use mathlib.Core.List.{reverse}
use Rattle.base.specs.Sum.{sum}
use Rattle.topology.specs.Tree.{Topo, Forest, node, fnil, fcons, count, code, codes, size, sizes, height, heights}
use Rattle.topology.specs.Reader.{fault, first, others, forest, tree}
use Rattle.topology.proofs.Decoding.{forest_code, length_code}
use Rattle.topology.proofs.Reader.{drawn, within}
use Rattle.regular_model.specs.InnerNeed.{enough, powers, need, needs, most_leaves}
use Rattle.regular_model.proofs.Bounds.{needs_room, room_most}

-- the terms of Kraft's sum over a forest
abbrev terms : ℕ → Forest → List ℕ
terms d ts = powers d (needs d ts)

module _ (d : ℕ) where
  terms_first : (b : ℕ) (ts : Forest) → terms d (first b ts) ≡ take b (terms d ts)
  terms_first zero ts = refl
  terms_first (suc b) fnil = refl
  terms_first (suc b) (fcons t ts) = ap (λ (l : List ℕ). d ^ need d t ∷ l) (terms_first b ts)

  terms-others : (b : ℕ) (ts : Forest) → terms d (others b ts) ≡ drop b (terms d ts)
  terms-others zero ts = refl
  terms-others (suc b) fnil = refl
  terms-others (suc b) (fcons t ts) = terms-others b ts

  length-terms : (ts : Forest) → length (terms d ts) ≡ count ts
  length-terms fnil = refl
  length-terms (fcons t ts) = ap suc (length-terms ts)

  terms_codes : (ts : Forest) (bs : List ℕ) → terms d (forest (codes ts ++ bs)) ≡ terms d ts ++ terms d (forest bs)
  terms_codes fnil bs = refl
  terms_codes (fcons t ts) bs =
      ap (λ (l : List ℕ). terms d (forest l)) (append_assoc (code t) (codes ts) bs)
      ∙ ap (terms d) (forest_code t (codes ts ++ bs))
      ∙ ap (λ (l : List ℕ). d ^ need d t ∷ l) (terms_codes ts bs)

-- There are as many terms as each byte requires, and their sum is small enough.
abbrev Ready : ℕ → List ℕ → Type 0
Ready d [] = Unit
Ready d (b ∷ bs) = (b ≤ length (terms d (forest bs))) × (sum (take b (terms d (forest bs))) ≤ most_leaves) × Ready d bs

module _ (d : ℕ) (z : 2 ≤ d) (most : d ≤ 8) where
  sum_most : (ts : Forest) → sizes ts ≤ 32 → heights ts ≤ 8 → sum (terms d ts) ≤ most_leaves
  sum_most ts few low =
      omega (arith, needs_room d z ts, room_most d (sizes ts) (heights ts) most few low, mul-le-mul_right {m = 2} {n = d} (sum (terms d ts)) z)

  mutual
    ready_tree : (t : Topo) (bs : List ℕ) → size t ≤ 32 → height t ≤ 8 → Ready d bs → Ready d (code t ++ bs)
    ready_tree (node ts) bs few low r =
        let l = terms_codes d ts bs in
        let n = length-terms d ts in (
          omega (arith, ap length l, length-append (terms d ts) (terms d (forest bs))),
          rw (l, take_at (terms d ts) (terms d (forest bs)) (count ts) n) (sum_most ts (omega arith) low),
          ready_forest ts bs (omega arith) low r,
        )

    ready_forest : (ts : Forest) (bs : List ℕ) → sizes ts ≤ 32 → heights ts ≤ 8 → Ready d bs → Ready d (codes ts ++ bs)
    ready_forest fnil bs few low r = r
    ready_forest (fcons t ts) bs few low r =
        rw append_assoc (ready_tree t (codes ts ++ bs) (omega arith) (omega arith) (ready_forest ts bs (omega arith) (omega arith) r))

  ready_bytes : (bytes : List ℕ) → fault 32 bytes ≡ 0 → Ready d bytes
  ready_bytes bytes e =
      let w = within 32 bytes e in
      rw (append-nil, drawn 32 bytes e) at (ready_tree (tree bytes) [] w.nodes w.steps tt)

ready_drop : (d n : ℕ) (bs : List ℕ) → Ready d bs → Ready d (drop n bs)
ready_drop d zero bs r = r
ready_drop d (suc n) [] r = tt
ready_drop d (suc n) (b ∷ bs) r = ready_drop d n bs r.2

-- The numbers xs of some trees on a stack, the first tree's last. The b last of the stack are the first b trees', and below them are the others'.
module _ (xs : List ℕ) (b : ℕ) (few : b ≤ length xs) where
  parts : reverse xs ≡ reverse (drop b xs) ++ reverse (take b xs)
  parts = rw (← reverse-append (take b xs) (drop b xs), take-append-drop)

  length_others : length (reverse (drop b xs)) ≡ length (reverse xs) - b
  length_others = rw (length-reverse (drop b xs), length-reverse xs, length-drop)

  take_others : take (length (reverse xs) - b) (reverse xs) ≡ reverse (drop b xs)
  take_others = ap (take (length (reverse xs) - b)) parts ∙ take_at (reverse (drop b xs)) (reverse (take b xs)) _ length_others

  drop_others : drop (length (reverse xs) - b) (reverse xs) ≡ reverse (take b xs)
  drop_others = ap (drop (length (reverse xs) - b)) parts ∙ drop_at (reverse (drop b xs)) (reverse (take b xs)) _ length_others

  sum_last : std_sum (drop (length (reverse xs) - b) (reverse xs)) ≡ sum (take b xs)
  sum_last =
      ap std_sum drop_others ∙ sum_by-IsPermutation (λ x. x) (take b xs) (reverse (take b xs)) (IsPermutation-reverse (take b xs))
      ∙ sym (is_sum_by sum (λ x. x) refl (λ _ _. refl) (take b xs))

-- The loop's invariant: the stack has the terms of the trees that the bytes from i on draw. There are at most as many trees as bytes read, so there
-- is room for each byte still to be read.
pub record Stacked (d : ℕ) (bytes stack : List ℕ) (i : ℕ) : Type 0 where
  pub room : length stack + i ≤ 32
  pub trees : stack ≡ reverse (terms d (forest (drop i bytes)))

-- The last byte of those that are left is read: the first i bytes are left before, and those of `next` after it.
pub record LastRead (bytes next : List ℕ) (i b : ℕ) : Type 0 where
  pub more : 0 < i
  pub inside : i ≤ length bytes
  pub byte : b ≡ get_or bytes (i - 1) 0
  pub before : i - 1 ≡ length next
  pub front : next ≡ take (length next) bytes

pub last_read : (bytes left next : List ℕ) (b : ℕ) → left ≡ take (length left) bytes → left ≡ next ++ (b ∷ []) → LastRead bytes next (length left) b
last_read bytes left next b front step =
    let long : length left ≡ length next + 1 = omega (arith, ap length step, length-append next (b ∷ [])) in
    let before : length left - 1 ≡ length next = omega arith in
    record {
      more = omega arith;
      inside = omega (arith, ap length front, length-take (length left) bytes);
      byte =
          rw before
          (sym (get_or-append_seam next b [] 0) ∙ ap (λ (l : List ℕ). get_or l (length next) 0) (sym step ∙ front)
          ∙ get_or-take (length left) bytes (length next) 0 (omega arith));
      before = before;
      front =
          sym (take-append_seam next (b ∷ [])) ∙ ap (take (length next)) (sym step ∙ front) ∙ take-take (length next) (length left) bytes (omega arith);
    }

module _ {d : ℕ} {bytes : List ℕ} (given : fault 32 bytes ≡ 0) (few : (2 ≤ d) × (d ≤ 8)) where
  pub stacked_none : Stacked d bytes [] (length bytes)
  stacked_none = record {
    room = omega (arith, (within 32 bytes given).nodes, length_code (tree bytes), ap length (drawn 32 bytes given));
    trees = rw (drop-length bytes);
  }

  -- One iteration: the byte before i is read, which has b children. The stack keeps `others` numbers.
  module _ {stack : List ℕ} {i b : ℕ} (s : Stacked d bytes stack i) (more : 0 < i) (read : i ≤ length bytes) (byte : b ≡ get_or bytes (i - 1) 0)
      (others : ℕ) (o : others ≡ length stack - b) where
    bytes_from : drop (i - 1) bytes ≡ b ∷ drop i bytes
    bytes_from =
        let e : suc (i - 1) ≡ i = omega arith in
        drop-cons bytes (i - 1) 0 (omega arith) ∙ rw (byte, e)

    abbrev xs : List ℕ
    xs = terms d (forest (drop i bytes))

    ready : Ready d (b ∷ drop i bytes)
    ready = rw bytes_from at (ready_drop d (i - 1) bytes (ready_bytes d few.0 few.1 bytes given))

    children_sum : std_sum (drop others stack) ≡ sum (take b xs)
    children_sum = rw (o, s.trees) (sum_last xs b ready.0)

    pub children_most : (b ≤ length stack) × (std_sum (drop others stack) ≤ most_leaves)
    children_most = (omega (arith, ready.0, ap length s.trees, length-reverse xs), omega (arith, children_sum, ready.1))

    node_read : terms d (forest (drop (i - 1) bytes)) ≡ d ^ enough d (sum (take b xs)) ∷ drop b xs
    node_read = rw (bytes_from, terms_first, terms-others)

    pub stacked_next : Stacked d bytes (take others stack ++ d ^ enough d (std_sum (drop others stack)) ∷ []) (i - 1)
    stacked_next = record {
      room = omega (arith, s.room, length-append (take others stack) (d ^ enough d (std_sum (drop others stack)) ∷ []), length-take others stack);
      trees =
          rw (children_sum, o, s.trees, take_others xs b ready.0)
          (sym (reverse-append (d ^ enough d (sum (take b xs)) ∷ []) (drop b xs)) ∙ ap reverse (sym node_read));
    }

  -- The first byte is read: one tree is drawn.
  module _ {stack : List ℕ} {i : ℕ} (s : Stacked d bytes stack i) (none : i ≡ 0) where
    whole : forest bytes ≡ fcons (tree bytes) fnil
    whole = ap forest (sym (append-nil (code (tree bytes)) ∙ drawn 32 bytes given)) ∙ forest_code (tree bytes) []

    pub stacked_end : stack ≡ d ^ need d (tree bytes) ∷ []
    stacked_end = s.trees ∙ rw none (ap (λ (ts : Forest). reverse (terms d ts)) whole)
