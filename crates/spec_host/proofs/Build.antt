-- The build for a C host: its verdicts can be encoded, and the list call's answer and lists are what its contract says.
use mathlib.Core.Path.{◌≡◌, refl, sym, ap, ◌∙◌, subst}
use mathlib.Core.List.{List}
use Prim.Native.Nat.{ℕ}
use lib.Ieee.{Float, binary32}
use Rattle.spec_lists.specs.Refusals.{Verdict, passes, refused, Settings}
use Rattle.spec_tree.specs.Trees.{Tree, node_count}
use Rattle.spec_build.specs.Build.{built_tree, Lists, build_refusal, Built, answer_by, BuildIs}
use Rattle.spec_host.specs.Status.{status, InPlace}
use Rattle.spec_host.specs.Build.{BuildPut, built_status, BuiltPlaced}
use Rattle.spec_host.proofs.Status.{no_test, then_test, triangles_encodable, settings_encodable, room_encodable}

-- every verdict of the build can be encoded in the status
pub build_encodable : (triangles : List Float) (s : Settings) (lent : Lists) → InPlace (build_refusal triangles s lent)
unfolding build_refusal
build_encodable triangles s lent =
    then_test _ _ (triangles_encodable triangles)
    (λ _. then_test _ _ (settings_encodable s)
    (λ _. then_test _ _ (room_encodable _ _)
    (λ _. then_test _ _ (room_encodable _ _)
    (λ _. then_test _ _ (room_encodable _ _)
    (λ _. then_test _ _ (room_encodable _ _)
    (λ _. then_test _ _ (room_encodable _ _)
    (λ _. then_test _ _ (room_encodable _ _) (λ _. no_test))))))))

status_by : (v : Verdict) (t : Tree) → built_status (answer_by v t) ≡ status v (node_count t)
status_by passes t = refl
status_by (refused number place) t = refl

placed_by : (v : Verdict) (t : Tree) → InPlace v → BuiltPlaced (answer_by v t)
placed_by passes t h = tt
placed_by (refused number place) t h = h

module _ (triangles : List Float) (s : Settings) {old new : Lists} {a : Built} (is : BuildIs binary32 triangles s old a new) where
  -- the answer of the list call can be encoded
  pub built_placed : BuiltPlaced a
  built_placed =
      subst BuiltPlaced (sym is.answer_is)
      (placed_by (build_refusal triangles s old) (built_tree binary32 triangles s) (build_encodable triangles s old))

  -- encoded, with the lists that it leaves, it keeps the contract
  pub build_put : {r : ℕ} → r ≡ built_status a → BuildPut triangles s old r new
  build_put e = record {
    status_is = e ∙ ap built_status is.answer_is ∙ status_by (build_refusal triangles s old) (built_tree binary32 triangles s);
    lists_are = subst (λ (b : Built). BuildIs binary32 triangles s old b new) is.answer_is is;
  }
