-- The depth that the reduced drawing needs is the least depth, for every d from 2 on (`least-depth`), and no other depth is (`depth_once`).
use mathlib.Core.Path.{◌≡◌, refl, sym, ap, ◌∙◌, subst₂}
use mathlib.Core.Logic.{◌↔◌, ◌≢◌}
use Prim.Native.Nat.{ℕ, ◌≤◌, ◌<◌}
use native.Mathlib.Decide.{ℕ_discrete, dec_lt}
use native.Mathlib.Omega.{arith}
use mathlib.Core.List.{List, [], append-nil}
use Rattle.base.proofs.Tabulate.{tabulate, length_tabulate, get_d_tabulate}
use Rattle.topology.specs.Tree.{Topo, Forest, node, fnil, fcons, width, size, code}
use Rattle.topology.specs.Address.{Addr, In, Above, addr, num}
use Rattle.topology.proofs.Numbering.{addr_in, num_lt, addr-num, addr_root}
use Rattle.topology.proofs.Ancestry.{size_pos, addr_inj}
use Rattle.topology.proofs.AncestryOrder.{above_antisym}
use Rattle.topology_reduction.specs.Reduced.{joined, reduced, reduced_all, spread, restricted}
use Rattle.embedding_model.specs.Rules.{image, Embeds}
use Rattle.embedding_model.proofs.Passes.{embeds_passes, passes_reduced}
use Rattle.regular_model.specs.Regular.{complete}
use Rattle.regular_model.specs.Depth.{Loads, LeastDepth}
use Rattle.regular_model.specs.InnerNeed.{enough, need}
use Rattle.regular_model.proofs.Fits.{Forked, AllForked, Fits, image_of, fits, bound}

-- ---- an embedding by address is one by number

fits_embeds : (R T : Topo) (F : Addr → Addr) → Fits R T F → Embeds R T (tabulate (size R) (λ n. num T (F (addr R n))))
fits_embeds R T F E =
    record {
      long = length_tabulate (size R) (λ n. num T (F (addr R n)));
      within = λ a h. rw (at a h) (num_lt T (F (addr R a)) (E.there (addr R a) (addr_in R a h)));
      once = λ a b h g e. once a b h g (sym (back a h) ∙ ap (addr T) (sym (at a h) ∙ e ∙ at b g) ∙ back b g);
      root = λ w. at 0 (size_pos R) ∙ ap (num T) (ap F (addr_root R) ∙ E.root);
      leaf = λ a h e. rw (at a h, back a h) (E.leaf (addr R a) (addr_in R a h) e);
      order = λ a b h g. (
        λ u. rw (at a h, at b g, back a h, back b g) (E.down (addr R a) (addr R b) (addr_in R a h) (addr_in R b g) u),
        λ u. E.up (addr R a) (addr R b) (addr_in R a h) (addr_in R b g) (rw (at a h, at b g, back a h, back b g) at u),
      );
    }
  where
    at : (a : ℕ) → a < size R → image (tabulate (size R) (λ n. num T (F (addr R n)))) a ≡ num T (F (addr R a))
    at a h = get_d_tabulate (size R) (λ n. num T (F (addr R n))) a 0 h

    back : (a : ℕ) → a < size R → addr T (num T (F (addr R a))) ≡ F (addr R a)
    back a h = addr-num T (F (addr R a)) (E.there (addr R a) (addr_in R a h))

    once : (a b : ℕ) → a < size R → b < size R → F (addr R a) ≡ F (addr R b) → a ≡ b
    once a b h g e =
        addr_inj R a b h g
        (above_antisym (addr R a) (addr R b)
        (E.up (addr R a) (addr R b) (addr_in R a h) (addr_in R b g) ([], sym e ∙ sym (append-nil (F (addr R a)))))
        (E.up (addr R b) (addr R a) (addr_in R b g) (addr_in R a h) ([], e ∙ sym (append-nil (F (addr R b))))))

embeds_fits : (R T : Topo) (l : List ℕ) → width R ≢ 0 → Embeds R T l → Fits R T (λ a. addr T (image l (num R a)))
embeds_fits R T l w E =
    record {
      root = ap (addr T) (E.root w) ∙ addr_root T;
      there = λ a i. addr_in T (image l (num R a)) (E.within (num R a) (num_lt R a i));
      leaf = λ a i e. E.leaf (num R a) (num_lt R a i) (rw (addr-num R a i) e);
      down = λ a b i j. (order a b i j).0;
      up = λ a b i j. (order a b i j).1;
    }
  where
    order : (a b : Addr) → In R a → In R b → Above a b ↔ Above (addr T (image l (num R a))) (addr T (image l (num R b)))
    order a b i j =
        subst₂ (λ (x y : Addr). Above x y ↔ Above (addr T (image l (num R a))) (addr T (image l (num R b)))) (addr-num R a i) (addr-num R b j)
        (E.order (num R a) (num R b) (num_lt R a i) (num_lt R b j))

-- ---- a reduced drawing has no passed node

forked-joined : (ts : Forest) → AllForked ts → Forked (joined ts)
forked-joined fnil f = (λ e. omega arith, tt)
forked-joined (fcons t fnil) f = f.0
forked-joined (fcons t (fcons u ts)) f = (λ e. omega arith, f)

mutual
  forked_reduced : (t : Topo) → Forked (reduced t)
  forked_reduced (node ts) = forked-joined (reduced_all ts) (all_forked ts)

  all_forked : (ts : Forest) → AllForked (reduced_all ts)
  all_forked fnil = tt
  all_forked (fcons t ts) = (forked_reduced t, all_forked ts)

-- ---- the least depth

leaf_need : (d : ℕ) (t : Topo) → width t ≡ 0 → need d t ≡ 0
unfolding enough
leaf_need d (node fnil) e = refl
leaf_need d (node (fcons t ts)) e = absurd (omega arith)

module _ (d : ℕ) (z : 2 ≤ d) (S : Topo) where
  abbrev R : Topo
  R = reduced S

  abbrev T : Topo
  T = complete d (need d R)

  abbrev images : List ℕ
  images = tabulate (size R) (λ n. num T (image_of d R (addr R n)))

  embeds : Embeds R T images
  embeds = fits_embeds R T (image_of d R) (fits d z R (forked_reduced S))

  not_lower : (j : ℕ) → j < need d R → Loads S (complete d j) → ⊥
  not_lower j h (m, p) = by_width (passes_reduced S (complete d j) m p).1 (ℕ_discrete (width R) 0)
    where
      by_width : Embeds R (complete d j) (restricted (code S) m) → Dec (width R ≡ 0) → ⊥
      by_width e (yes w) = omega (arith, leaf_need d R w)
      by_width e (no w) =
          omega (arith, bound d z R j (λ a. addr (complete d j) (image (restricted (code S) m) (num R a))) (embeds_fits R (complete d j) (restricted (code S) m) w e))

  -- The theorem of request 2.3, for every d.
  pub least-depth : LeastDepth S d (need d (reduced S))
  least-depth =
      record {
        loads = (spread (code S) images, embeds_passes S T images embeds.long embeds);
        least = not_lower;
      }

-- The least depth is unique.
pub depth_once : (S : Topo) (d j k : ℕ) → LeastDepth S d j → LeastDepth S d k → j ≡ k
depth_once S d j k u v = by_order (dec_lt j k) (dec_lt k j)
  where
    by_order : Dec (j < k) → Dec (k < j) → j ≡ k
    by_order (yes l) g = absurd (v.least j l u.loads)
    by_order (no l) (yes g) = absurd (u.least k g v.loads)
    by_order (no l) (no g) = omega arith
