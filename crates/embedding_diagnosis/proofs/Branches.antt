-- An embedding, seen from one node of the drawing: it maps the branch under that node into the branch under the node's image (`branch_embeds`), and
-- the image lies no less deep than the node (`image-depth`). And a branch of a tree within the limits is within them (`branch-within`).
use mathlib.Core.Path.{◌≡◌, sym, ap, ◌∙◌, subst}
use mathlib.Core.Logic.{◌≢◌}
use Prim.Native.Nat.{ℕ, zero, suc, ◌+◌, ◌-◌, ◌≤◌, ◌<◌}
use native.Mathlib.Omega.{arith}
use native.Mathlib.Nat.{not-suc-le-zero, le_of_suc-le-suc, add-zero}
use mathlib.Core.List.{List, [], ◌∷◌, append-nil}
use lib.ListN.{length, length-append}
use Rattle.base.proofs.Tabulate.{tabulate, length_tabulate, get_d_tabulate}
use Rattle.topology.specs.Tree.{Topo, Forest, node, fnil, fcons, count, width, size, height, breadth, breadths}
use Rattle.topology.specs.Address.{Addr, In, Above, nth, sub, addr, subtree, depth}
use Rattle.topology.specs.Reader.{Within}
use Rattle.topology.proofs.Numbering.{addr_root, addr_in}
use Rattle.topology.proofs.Ancestry.{above_from, above_to, size_pos, sum_lt, subtree-sum, subtree_end, addr_inj, nth_height}
use Rattle.topology.proofs.Children.{HasChild, Parent, parent, child_of_after, depth-child_of, addr-child_of}
use Rattle.embedding_model.specs.Rules.{image, Embeds}

-- Ancestry within a branch is ancestry in the tree.
module _ (t : Topo) (n a b : ℕ) (h : n < size t) (f : a < size (subtree t n)) (g : b < size (subtree t n)) where
  sizes_same : size (subtree t (n + a)) ≡ size (subtree (subtree t n) a)
  sizes_same = ap size (subtree-sum t n a h f)

  above_in : Above (addr (subtree t n) a) (addr (subtree t n) b) → Above (addr t (n + a)) (addr t (n + b))
  above_in u =
      let i = above_from (subtree t n) a b f g u in
      above_to t (n + a) (n + b) (sum_lt t n a h f) (omega arith) (omega (arith, sizes_same))

  above_out : Above (addr t (n + a)) (addr t (n + b)) → Above (addr (subtree t n) a) (addr (subtree t n) b)
  above_out u =
      let i = above_from t (n + a) (n + b) (sum_lt t n a h f) (sum_lt t n b h g) u in
      above_to (subtree t n) a b f (omega arith) (omega (arith, sizes_same))

module _ (R T : Topo) (m : List ℕ) (E : Embeds R T m) (s : ℕ) (h : s < size R) where
  abbrev top : ℕ
  top = image m s

  -- where node a of the branch goes, as a node of the branch under the image of s
  abbrev in_branch : ℕ → ℕ
  in_branch a = image m (s + a) - top

  abbrev pub branch_map : List ℕ
  branch_map = tabulate (size (subtree R s)) in_branch

  at : (a : ℕ) → a < size (subtree R s) → image branch_map a ≡ in_branch a
  at a f = get_d_tabulate (size (subtree R s)) in_branch a 0 f

  inside : (a : ℕ) → a < size (subtree R s) → (top ≤ image m (s + a)) × (image m (s + a) < top + size (subtree T top))
  inside a f =
      let g = sum_lt R s a h f in
      above_from T top (image m (s + a)) (E.within s h) (E.within (s + a) g)
      ((E.order s (s + a) h g).0 (above_to R s (s + a) h (omega arith) (omega arith)))

  sum : (a : ℕ) → a < size (subtree R s) → top + in_branch a ≡ image m (s + a)
  sum a f = omega (arith, inside a f)

  lower : (a : ℕ) → a < size (subtree R s) → in_branch a < size (subtree T top)
  lower a f = omega (arith, inside a f)

  pub branch_embeds : Embeds (subtree R s) (subtree T top) branch_map
  branch_embeds =
      record {
        long = length_tabulate (size (subtree R s)) in_branch;
        within = λ a f. rw (at a f) (lower a f);
        once = λ a b f g e.
            let q : in_branch a ≡ in_branch b = sym (at a f) ∙ e ∙ at b g in
            let r = E.once (s + a) (s + b) (sum_lt R s a h f) (sum_lt R s b h g) (omega (arith, q, sum a f, sum b g)) in
            omega (arith, r);
        root = λ w. at 0 (size_pos (subtree R s)) ∙ origin;
        leaf = λ a f e.
            rw (at a f)
            (ap width (sym (subtree-sum T top (in_branch a) (E.within s h) (lower a f)) ∙ ap (subtree T) (sum a f))
            ∙ E.leaf (s + a) (sum_lt R s a h f) (ap width (subtree-sum R s a h f) ∙ e));
        order = λ a b f g. rw (at a f, at b g) (there a b f g, back a b f g);
      }
    where
      origin : in_branch 0 ≡ 0
      origin = omega (arith, ap (image m) (add-zero s))

      there : (a b : ℕ) → a < size (subtree R s) → b < size (subtree R s) → Above (addr (subtree R s) a) (addr (subtree R s) b)
          → Above (addr (subtree T top) (in_branch a)) (addr (subtree T top) (in_branch b))
      there a b f g u =
          above_out T top (in_branch a) (in_branch b) (E.within s h) (lower a f) (lower b g)
          (rw (sum a f, sum b g) ((E.order (s + a) (s + b) (sum_lt R s a h f) (sum_lt R s b h g)).0 (above_in R s a b h f g u)))

      back : (a b : ℕ) → a < size (subtree R s) → b < size (subtree R s)
          → Above (addr (subtree T top) (in_branch a)) (addr (subtree T top) (in_branch b)) → Above (addr (subtree R s) a) (addr (subtree R s) b)
      back a b f g u =
          above_out R s a b h f g
          ((E.order (s + a) (s + b) (sum_lt R s a h f) (sum_lt R s b h g)).1
          (rw (sum a f, sum b g) at (above_in T top (in_branch a) (in_branch b) (E.within s h) (lower a f) (lower b g) u)))

-- By the parent: a node's image lies strictly below the image of its parent.
module _ (R T : Topo) (m : List ℕ) (E : Embeds R T m) where
  deeper : (a b : ℕ) → a < size R → b < size R → a ≢ b → Above (addr R a) (addr R b) → depth T (image m a) < depth T (image m b)
  deeper a b h g n u = by_rest ((E.order a b h g).0 u)
    where
      by_rest : Above (addr T (image m a)) (addr T (image m b)) → depth T (image m a) < depth T (image m b)
      by_rest ([], e) =
          absurd (n (E.once a b h g
          (addr_inj T (image m a) (image m b) (E.within a h) (E.within b g) (sym (e ∙ append-nil (addr T (image m a)))))))
      by_rest (x ∷ d, e) = omega (arith, ap length e, length-append (addr T (image m a)) (x ∷ d))

  by_parent : (n : ℕ) → n < size R → (q : Parent R n) → depth R q.node ≤ depth T (image m q.node) → depth R n ≤ depth T (image m n)
  by_parent n h q known =
      let has : HasChild R q.node q.index = q.has in
      let less : q.node < n = subst (λ (k : ℕ). q.node < k) q.child (child_of_after R q.node q.index has) in
      let one : depth R n ≡ suc (depth R q.node) = ap (depth R) (sym q.child) ∙ depth-child_of R q.node q.index has in
      let under : Above (addr R q.node) (addr R n) =
      subst (λ (k : ℕ). Above (addr R q.node) (addr R k)) q.child (q.index ∷ [], addr-child_of R q.node q.index has) in
      omega (arith, known, one, deeper q.node n has.0 h (λ e. omega (arith, e, less)) under)

  up_to : (fuel n : ℕ) → n < fuel → n < size R → depth R n ≤ depth T (image m n)
  up_to zero n f h = absurd (not-suc-le-zero f)
  up_to (suc fuel) zero f h = omega (arith, ap length (addr_root R))
  up_to (suc fuel) (suc n) f h =
      let q = parent R (suc n) (omega arith) h in
      let less : q.node < suc n = subst (λ (k : ℕ). q.node < k) q.child (child_of_after R q.node q.index q.has) in
      by_parent (suc n) h q (up_to fuel q.node (omega arith) q.has.0)

  pub image-depth : (n : ℕ) → n < size R → depth R n ≤ depth T (image m n)
  image-depth n = up_to (suc n) n (omega arith)

-- The limits hold of a branch.
nth_breadth : (ts : Forest) (k : ℕ) → k < count ts → breadth (nth ts k) ≤ breadths ts
nth_breadth fnil k h = absurd (not-suc-le-zero h)
nth_breadth (fcons t ts) zero h = omega arith
nth_breadth (fcons t ts) (suc k) h = omega (arith, nth_breadth ts k (le_of_suc-le-suc h))

sub_small : (t : Topo) (a : Addr) → In t a → (breadth (sub t a) ≤ breadth t) × (height (sub t a) ≤ height t)
sub_small t [] i = (omega arith, omega arith)
sub_small t (zero ∷ a) i = absurd (not-suc-le-zero i.0)
sub_small (node ts) (suc k ∷ a) (p, l, r) =
    let e = sub_small (nth ts k) a r in
    (omega (arith, e.0, nth_breadth ts k l), omega (arith, e.1, nth_height ts k l))

pub branch-within : (limit : ℕ) (t : Topo) (n : ℕ) → n < size t → Within limit t → Within limit (subtree t n)
branch-within limit t n h w =
    let e = sub_small t (addr t n) (addr_in t n h) in
    record {
      nodes = omega (arith, subtree_end t n h, w.nodes);
      children = omega (arith, e.0, w.children);
      steps = omega (arith, e.1, w.steps);
    }
