-- A node's role in a map, from what the code tests and counts: one law for each answer.
use mathlib.Core.Path.{◌≡◌}
use mathlib.Core.Logic.{◌≢◌}
use Prim.Native.Nat.{ℕ}
use mathlib.Core.List.{List}
use lib.ListN.{length}
use borrow.Author.Tests.{eq-eqb, ne_eqb}
use Rattle.topology_places.specs.Places.{source_role, images_at, images_under, role_of}
use Rattle.topology_places.specs.declared.Role.TheVariants.{Plain, Passed, Image, Between, Unused}

pub role_passed : (children : ℕ) → children ≡ 1 → Passed ≡ source_role children
unfolding source_role
role_passed children e = rw (eq-eqb children 1 e)

module _ (bytes images : List ℕ) (k : ℕ) where
  pub role_plain : length images ≡ 0 → Plain ≡ role_of bytes images k
  unfolding role_of
  role_plain e = rw (eq-eqb (length images) 0 e)

  module _ (some : length images ≢ 0) where
    pub role_image : images_at images k ≢ 0 → Image ≡ role_of bytes images k
    unfolding role_of
    role_image n = rw (ne_eqb (length images) 0 some, ne_eqb (images_at images k) 0 n)

    pub role_between : images_at images k ≡ 0 → images_under bytes images k ≢ 0 → Between ≡ role_of bytes images k
    unfolding role_of
    role_between z n = rw (ne_eqb (length images) 0 some, eq-eqb (images_at images k) 0 z, ne_eqb (images_under bytes images k) 0 n)

    pub role_unused : images_at images k ≡ 0 → images_under bytes images k ≡ 0 → Unused ≡ role_of bytes images k
    unfolding role_of
    role_unused z y = rw (ne_eqb (length images) 0 some, eq-eqb (images_at images k) 0 z, eq-eqb (images_under bytes images k) 0 y)
