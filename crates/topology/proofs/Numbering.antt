-- Node numbers and addresses, in both directions.
--
-- Each node except the root is node m of the branch of some child, and its number is m, plus the nodes of the children before that one, plus one.
-- `node_ind` is the induction that follows this. With it and its counterpart for addresses, `addr-child`, every law here is short.
use mathlib.Core.Path.{◌≡◌, refl, sym, ap, ◌∙◌, subst}
use Prim.Native.Nat.{ℕ, zero, suc, ◌+◌, ◌-◌, ◌<◌, suc-le-suc}
use native.Mathlib.Nat.{zero-add, add-zero, not-suc-le-zero, le_of_suc-le-suc, zero-lt-suc}
use native.Mathlib.Numerals.{one-add}
use native.Mathlib.Decide.{dec_lt}
use native.Mathlib.Omega.{arith}
use mathlib.Core.List.{[], ◌∷◌, map}
use lib.ListN.{length, get_or, length-append, get_or-append}
use lib.Seq.{get_or-append-add}
use Rattle.std.proofs.lemmas.List.{length-map, get_or-map}
use Rattle.topology.specs.Tree.{Topo, Forest, node, fnil, fcons, count, kids, width, size, sizes}
use Rattle.topology.specs.Address.{Addr, nth, In, addrs, addrs_from, addr, ahead, num}

mutual
  pub length_addrs : (t : Topo) → length (addrs t) ≡ size t
  length_addrs (node ts) = ap suc (length_addrs_from ts 1)

  length_addrs_from : (ts : Forest) (k : ℕ) → length (addrs_from ts k) ≡ sizes ts
  length_addrs_from fnil k = refl
  length_addrs_from (fcons t ts) k =
      let e = length_addrs t in
      let es = length_addrs_from ts (suc k) in
      let m = length-map (addrs t) (λ (a : Addr). k ∷ a) in
      omega (arith, length-append (map (λ (a : Addr). k ∷ a) (addrs t)) (addrs_from ts (suc k)))

-- a node of the tree at an index is a node of the forest
pub ahead_lt : (ts : Forest) (i m : ℕ) → i < count ts → m < size (nth ts i) → ahead ts i + m < sizes ts
ahead_lt fnil i m h g = absurd (not-suc-le-zero h)
ahead_lt (fcons t ts) zero m h g = omega arith
ahead_lt (fcons t ts) (suc i) m h g = omega (arith, ahead_lt ts i m (le_of_suc-le-suc h) g)

-- the position of a node in a forest: in which tree, and which node of that tree
pub record Place (ts : Forest) (n : ℕ) : Type 0 where
  pub index : ℕ
  pub inner : ℕ
  pub there : index < count ts
  pub below : inner < size (nth ts index)
  pub sum : n ≡ ahead ts index + inner

pub place : (ts : Forest) (n : ℕ) → n < sizes ts → Place ts n
place fnil n h = absurd (not-suc-le-zero h)
place (fcons t ts) n h = here_or_later (dec_lt n (size t)) (place ts (n - size t))
  where
    here_or_later : Dec (n < size t) → (n - size t < sizes ts → Place ts (n - size t)) → Place (fcons t ts) n
    here_or_later (yes l) r = record { index = 0; inner = n; there = zero-lt-suc (count ts); below = l; sum = omega arith }
    here_or_later (no g) r =
        let p = r (omega arith) in
        record {
          index = suc p.index;
          inner = p.inner;
          there = suc-le-suc p.there;
          below = p.below;
          sum = omega (arith, p.sum);
        }

-- Induction over the nodes of a tree: P holds of the root, and it holds of a node if it holds of that node in the branch of a child.
pub node_ind : (P : Topo → ℕ → Type 0) → ((t : Topo) → P t 0)
    → ((t : Topo) (i m : ℕ) → i < width t → m < size (nth (kids t) i) → P (nth (kids t) i) m → P t (suc (ahead (kids t) i + m)))
    → (t : Topo) (n : ℕ) → n < size t → P t n
node_ind P root step t n h = up_to (suc n) t n (omega arith) h
  where
    up_to : (fuel : ℕ) (t : Topo) (n : ℕ) → n < fuel → n < size t → P t n
    up_to zero t n f h = absurd (not-suc-le-zero f)
    up_to (suc fuel) t zero f h = root t
    up_to (suc fuel) (node ts) (suc n) f h =
        let p = place ts n (le_of_suc-le-suc h) in
        let deeper = up_to fuel (nth ts p.index) p.inner (omega (arith, p.sum)) p.below in
        subst (λ (k : ℕ). P (node ts) (suc k)) (sym p.sum) (step (node ts) p.index p.inner p.there p.below deeper)

-- node m of child i's branch: its address is the child number followed by its address in the branch
get_or_addrs_from : (ts : Forest) (k i m : ℕ) → i < count ts → m < size (nth ts i)
    → get_or (addrs_from ts k) (ahead ts i + m) [] ≡ (k + i) ∷ get_or (addrs (nth ts i)) m []
get_or_addrs_from fnil k i m h g = absurd (not-suc-le-zero h)
get_or_addrs_from (fcons t ts) k zero m h g =
    let f : Addr → Addr = λ a. k ∷ a in
    let l : m < length (addrs t) = omega (arith, length_addrs t) in
    rw (zero-add m, add-zero k)
    (get_or-append (map f (addrs t)) (addrs_from ts (suc k)) [] m (omega (arith, length-map (addrs t) f))
    ∙ get_or-map f (addrs t) m [] [] l)
get_or_addrs_from (fcons t ts) k (suc i) m h g =
    let f : Addr → Addr = λ a. k ∷ a in
    let e : size t + ahead ts i + m ≡ length (map f (addrs t)) + (ahead ts i + m) =
    omega (arith, length_addrs t, length-map (addrs t) f) in
    let j : suc k + i ≡ k + suc i = omega arith in
    ap (λ (n : ℕ). get_or (addrs_from (fcons t ts) k) n []) e
    ∙ get_or-append-add (map f (addrs t)) (addrs_from ts (suc k)) (ahead ts i + m) []
    ∙ get_or_addrs_from ts (suc k) i m (le_of_suc-le-suc h) g
    ∙ ap (λ (n : ℕ). n ∷ get_or (addrs (nth ts i)) m []) j

pub addr-child : (t : Topo) (i m : ℕ) → i < width t → m < size (nth (kids t) i)
    → addr t (suc (ahead (kids t) i + m)) ≡ suc i ∷ addr (nth (kids t) i) m
unfolding addr
addr-child (node ts) i m h g =
    get_or_addrs_from ts 1 i m h g ∙ ap (λ (n : ℕ). n ∷ get_or (addrs (nth ts i)) m []) (one-add i)

pub addr_root : (t : Topo) → addr t 0 ≡ []
unfolding addr
addr_root (node ts) = refl

-- Each number below the size has an address in the tree, and that address has the number.
pub addr_in : (t : Topo) (n : ℕ) → n < size t → In t (addr t n)
addr_in = node_ind (λ t n. In t (addr t n)) (λ t. rw addr_root tt) (λ t i m h g r. rw (addr-child t i m h g) (zero-lt-suc i, h, r))

pub num-addr : (t : Topo) (n : ℕ) → n < size t → num t (addr t n) ≡ n
num-addr =
    node_ind (λ t n. num t (addr t n) ≡ n) (λ t. rw addr_root) (λ t i m h g r. rw (addr-child t i m h g, r))

-- Each address in the tree has a number below the size, and that number has the address.
pub num_lt : (t : Topo) (a : Addr) → In t a → num t a < size t
num_lt (node ts) [] a = omega arith
num_lt t (zero ∷ a) i = absurd (not-suc-le-zero i.0)
num_lt (node ts) (suc i ∷ a) (p, l, r) = suc-le-suc (ahead_lt ts i (num (nth ts i) a) l (num_lt (nth ts i) a r))

pub addr-num : (t : Topo) (a : Addr) → In t a → addr t (num t a) ≡ a
addr-num t [] i = addr_root t
addr-num t (zero ∷ a) i = absurd (not-suc-le-zero i.0)
addr-num t (suc i ∷ a) (p, l, r) =
    addr-child t i (num (nth (kids t) i) a) l (num_lt (nth (kids t) i) a r)
    ∙ ap (λ (b : Addr). suc i ∷ b) (addr-num (nth (kids t) i) a r)
