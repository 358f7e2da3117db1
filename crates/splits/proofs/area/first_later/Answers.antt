-- `splits::area::first_later` meets its contract: `position` finds the first box in a later bucket, if there is one.
use Rattle.std.proofs.Common.{◌≡◌, ℕ, suc, ◌+◌, Bool, true, false, cond, ltb, lt-ltb, Some, None, List, [], ◌∷◌, map, length, refl, ap, ◌∙◌, arith, rules, tests}
use Rattle.std.specs.List.{position_or_len}
use Rattle.std.proofs.lemmas.Iterator.{YieldsList-from_slice}
use Rattle.std.proofs.lemmas.Iterator.Search.{position_from_yields_List}
use Rattle.std.proofs.lemmas.Iterator.Adapters.{serves_from_places}
use Prim.Native.Nat.compare
use Rattle.spec_shapes.specs.Boxes.{Box}
use Rattle.spec_splits.specs.Splits.{Split, cut_at, nowhere, box_in}
use Rattle.spec_splits.specs.Area.{first_later}
use Rattle.splits.specs.Values.{as_split, bucket_in}
use Rattle.splits.proofs.Reading.{in_table_read}
use Rattle.splits.proofs.area.first_later.Goals as goal

module _ (bucket : Box → ℕ) (last : ℕ) (g : ℕ → Box) where
  abbrev later : ℕ → Bool
  later t = ltb last (bucket (g t))

  abbrev cut_from : ℕ → List ℕ → Split
  cut_from n ts = cond (ltb (position_or_len later ts) (length ts)) (cut_at (n + position_or_len later ts)) nowhere

  one_on : (n k l : ℕ) → cond (ltb (1 + k) (suc l)) (cut_at (n + (1 + k))) nowhere ≡ cond (ltb k l) (cut_at (suc n + k)) nowhere
  one_on n k l =
      let next : 1 + k ≡ suc k = omega arith in
      let place : n + suc k ≡ suc n + k = omega arith in
      rw (next, compare.suc-suc (suc k) l) (ap (λ (m : ℕ). cond (ltb k l) (cut_at m) nowhere) place)

  cut_from_is : (n : ℕ) (ts : List ℕ) → cut_from n ts ≡ first_later bucket last (map g ts) n
  unfolding first_later
  cut_from_is n [] = refl
  cut_from_is n (t ∷ ts) = go (later t) refl (cut_from_is (suc n) ts)
    where
      go : (b : Bool) → later t ≡ b → cut_from (suc n) ts ≡ first_later bucket last (map g ts) (suc n)
          → cut_from n (t ∷ ts) ≡ cond b (cut_at n) (first_later bucket last (map g ts) (suc n))
      go true e r =
          let here : n + 0 ≡ n = omega arith in
          rw (e, lt-ltb 0 (suc (length ts)) (omega arith)) (ap cut_at here)
      go false e r = rw (e, ← r) (one_on n (position_or_len later ts) (length ts))

  split_is : (ts : List ℕ)
      → as_split (cond (ltb (position_or_len later ts) (length ts)) (Some (position_or_len later ts)) None) ≡ first_later bucket last (map g ts) 0
  split_is ts = go (ltb (position_or_len later ts) (length ts)) refl ∙ cut_from_is 0 ts
    where
      go : (b : Bool) → ltb (position_or_len later ts) (length ts) ≡ b → as_split (cond b (Some (position_or_len later ts)) None) ≡ cut_from 0 ts
      go true e =
          let here : position_or_len later ts ≡ 0 + position_or_len later ts = omega arith in
          rw e (ap cut_at here)
      go false e = rw e

pub position-requires-clause-callable : goal.position-requires-clause-callable
position-requires-clause-callable c =
    serves_from_places (YieldsList-from_slice c.args.slice.now cc) (λ x q k. search (rules, tests))
    (λ x k h e. let in_table = in_table_read c.args.bounds.now c.args.slice.now c.requires x.now k h e in search (rules, tests))

pub returns : goal.returns
returns c =
    let args = c.args in
    let bucket = bucket_in args.within in
    ap as_split (position_from_yields_List (λ t. ltb args.k (bucket (box_in args.bounds.now t))) _ _ c.position.result c.position.ensures.ran
    (YieldsList-from_slice args.slice.now cc) (λ x b q k. search (rules, tests)))
    ∙ split_is bucket args.k (box_in args.bounds.now) args.slice.now
