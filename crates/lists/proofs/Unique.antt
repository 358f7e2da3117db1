-- No two refusals, no two answers of a test and no two settings of the code stand for the same of the definitions.
use Rattle.std.proofs.Common.{◌≡◌, ℕ, cond, eqb, refl, sym, ap, ◌∙◌}
use Rattle.std.specs.Prelude.{Result, Ok, Err}
use Rattle.spec_lists.specs.Refusals as Refusals
use Rattle.lists.specs.declared.refusal.Refusal.{Refusal}
use Rattle.lists.specs.declared.refusal.Refusal.TheVariants as Refusal
use Rattle.lists.specs.declared.settings.Settings.{Settings}
use Rattle.lists.specs.Values.{number_of, place_of, as_verdict, as_settings}

-- the refusal of this number, at this place
pub back_refusal : (number place : ℕ) → Refusal
back_refusal number place =
    cond (eqb number 1) Refusal.RaggedTriangles (
    cond (eqb number 2) Refusal.NoTriangle (
    cond (eqb number 3) Refusal.TooManyTriangles (
    cond (eqb number 4) (Refusal.BadCoordinate place) (
    cond (eqb number 5) Refusal.BadSetting (
    cond (eqb number 6) Refusal.NoRoom (
    cond (eqb number 71) (Refusal.BadOrder place) (
    cond (eqb number 72) Refusal.BadNodeCount (
    cond (eqb number 73) (Refusal.BadListing place) (
    cond (eqb number 74) (Refusal.TooDeep place) (
    cond (eqb number 75) (Refusal.BadBox place) (
    cond (eqb number 8) (Refusal.BadPoint place) (
    cond (eqb number 9) Refusal.BadDistance (
    cond (eqb number 10) (Refusal.BadLayout place) (
    cond (eqb number 11) (Refusal.BadStlSize place) (
    Refusal.BadScale)))))))))))))))

back_of : (r : Refusal) → back_refusal (number_of r) (place_of r) ≡ r
unfolding back_refusal
back_of Refusal.RaggedTriangles = refl
back_of Refusal.NoTriangle = refl
back_of Refusal.TooManyTriangles = refl
back_of (Refusal.BadCoordinate place) = refl
back_of Refusal.BadSetting = refl
back_of Refusal.NoRoom = refl
back_of (Refusal.BadOrder place) = refl
back_of Refusal.BadNodeCount = refl
back_of (Refusal.BadListing place) = refl
back_of (Refusal.TooDeep place) = refl
back_of (Refusal.BadBox place) = refl
back_of (Refusal.BadPoint place) = refl
back_of Refusal.BadDistance = refl
back_of (Refusal.BadLayout place) = refl
back_of (Refusal.BadStlSize place) = refl
back_of Refusal.BadScale = refl

-- number and place fix a refusal
pub refusal_unique : (a b : Refusal) → number_of a ≡ number_of b → place_of a ≡ place_of b → a ≡ b
refusal_unique a b n p = sym (back_of a) ∙ (rw (n, p) refl ∙ back_of b)

-- what a verdict stands for fixes it
pub verdict_unique : (a b : Result (Unit {0}) Refusal) → as_verdict a ≡ as_verdict b → a ≡ b
verdict_unique (Ok x) (Ok y) e = refl
verdict_unique (Ok x) (Err r) e = cc
verdict_unique (Err r) (Ok x) e = cc
verdict_unique (Err r) (Err q) e =
    let n : number_of r ≡ number_of q = cc in
    let p : place_of r ≡ place_of q = cc in
    ap Err (refusal_unique r q n p)

-- the settings that these stand for
abbrev pub back_settings : Refusals.Settings → Settings
back_settings s = record { strategy = s.strategy; leaf_minimum = s.leaf_minimum; maximum_depth = s.maximum_depth }

-- what settings stand for fixes them
pub settings_unique : (a b : Settings) → as_settings a ≡ as_settings b → a ≡ b
settings_unique a b e = ap back_settings e
