-- What the version for a number of triangles keeps, and the largest images. The two versions are told apart here: other laws are over any shape.
use mathlib.Core.Path.{◌≡◌, refl, sym, ap, ◌∙◌}
use mathlib.Core.Bool.{Bool, true, false}
use Prim.Native.Nat.{ℕ, ◌+◌, ◌-◌, ◌*◌, ◌/◌, ◌%◌, ◌^◌, ◌≤◌, ◌<◌}
use native.Mathlib.Omega.{arith}
use borrow.Author.Tests.{eqb-true, eqb-false}
use native.Mathlib.Decide.{dec_lt}
use lib.Dec.{eqb}
use Rattle.spec_records.specs.Little.{little}
use Rattle.spec_records.specs.Layouts.{Shape, version1, version2, max_small, version_for, triangle_size, node_size, is_known, image_size}
use Rattle.spec_records.proofs.Layouts.{version_small, version_large, each_version}
use Rattle.spec_lists.specs.Limits.{max_triangles}
use Rattle.spec_image.specs.Image.{leaf_in}

-- ---- a leaf minimum in two bytes
same_low : (a k : ℕ) → a % 256 ≡ (256 * k + a) % 256
same_low a k = omega arith

-- two bytes of a number are those of its remainder: what is stored of a leaf minimum that has more
pub low_two : (n : ℕ) → little 2 (n % 256 ^ 2) ≡ little 2 n
unfolding little
low_two n =
    let a : n % 65536 % 256 ≡ n % 256 = omega arith in
    let c : n / 256 ≡ 256 * (n / 65536) + n % 65536 / 256 = omega arith in
    let b : n % 65536 / 256 % 256 ≡ n / 256 % 256 = rw c (same_low (n % 65536 / 256) (n / 65536)) in
    rw (a, b)

-- the leaf minimum that two bytes stand for is stored as these
pub leaf_bytes : (sh : Shape) (stored : ℕ) → sh.zero_leaf % 256 ^ 2 ≡ 0 → little 2 (leaf_in sh stored) ≡ little 2 stored
unfolding leaf_in
leaf_bytes sh stored zero = go (eqb stored 0) refl
  where
    go : (b : Bool) → eqb stored 0 ≡ b → little 2 (leaf_in sh stored) ≡ little 2 stored
    go true e = rw (e, eqb-true stored 0 e) (sym (low_two sh.zero_leaf) ∙ ap (little 2) zero)
    go false e = rw e

-- ---- what a version keeps
-- what a shape must have so that t triangles with any tree over them can be written and read back
pub record Keeps (t : ℕ) (sh : Shape) : Type 0 where
  pub version : sh.version < 256 ^ 2
  pub known : is_known sh.version ≡ true
  pub links : t ≤ max_triangles → 2 * t < 256 ^ sh.entry
  pub triangles : t ≤ max_triangles → triangle_size sh * t < 256 ^ 4
  pub order : t ≤ max_triangles → sh.entry * t < 256 ^ 4
  pub nodes : t ≤ max_triangles → (n : ℕ) → n + 1 ≤ 2 * t → node_size sh * n < 256 ^ 4
  pub leaf : (m : ℕ) → 1 ≤ m → m ≤ sh.max_leaf → leaf_in sh (m % 256 ^ 2) ≡ m
  pub zero : sh.zero_leaf % 256 ^ 2 ≡ 0

leaf_by : (sh : Shape) (m stored : ℕ) → (stored ≡ 0 → sh.zero_leaf ≡ m) → ((stored ≡ 0 → ⊥) → stored ≡ m) → leaf_in sh stored ≡ m
unfolding leaf_in
leaf_by sh m stored none some = go (eqb stored 0) refl
  where
    go : (b : Bool) → eqb stored 0 ≡ b → leaf_in sh stored ≡ m
    go true e = rw e (none (eqb-true stored 0 e))
    go false e = rw e (some (eqb-false stored 0 e))

first_keeps : (t : ℕ) → t ≤ max_small → Keeps t version1
first_keeps t h = record {
  version = omega arith;
  known = refl;
  links = λ k. omega arith;
  triangles = λ k. omega arith;
  order = λ k. omega arith;
  nodes = λ k n l. omega arith;
  leaf = λ m a b. leaf_by version1 m (m % 256 ^ 2) (λ z. omega arith) (λ z. omega arith);
  zero = refl;
}

second_keeps : (t : ℕ) → Keeps t version2
second_keeps t = record {
  version = omega arith;
  known = refl;
  links = λ k. omega arith;
  triangles = λ k. omega arith;
  order = λ k. omega arith;
  nodes = λ k n l. omega arith;
  leaf = λ m a b. leaf_by version2 m (m % 256 ^ 2) (λ z. omega arith) (λ z. omega arith);
  zero = refl;
}

-- the version for t triangles keeps them
pub version_keeps : (t : ℕ) → Keeps t (version_for t)
version_keeps t = go (dec_lt max_small t)
  where
    go : Dec (max_small < t) → Keeps t (version_for t)
    go (yes large) = rw (version_large t large) (second_keeps t)
    go (no small) = let few : t ≤ max_small = omega arith in rw (version_small t few) (first_keeps t few)

-- ---- the largest image, of as many nodes as a tree can have
-- of version 1: 98 bytes a triangle and two
pub max_size_small : (t : ℕ) → 1 ≤ t → t ≤ max_small → image_size (version_for t) t (2 * t - 1) ≡ 98 * t + 2
max_size_small t some few = rw (version_small t few) (omega arith)

-- of version 2: 108 bytes a triangle less two
pub max_size_large : (t : ℕ) → max_small < t → image_size (version_for t) t (2 * t - 1) + 2 ≡ 108 * t
max_size_large t many = rw (version_large t many) (omega arith)

-- ---- any image, of a number of nodes that may be made up
-- an image has at least so many bytes, so more nodes than a thirtieth of the room do not fit
pub size_least : (t n : ℕ) → 38 * t + 30 * n ≤ image_size (version_for t) t n
size_least t n = each_version (λ (sh : Shape). 38 * t + 30 * n ≤ image_size sh t n) (omega arith) (omega arith) t
