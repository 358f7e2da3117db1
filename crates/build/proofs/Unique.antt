-- No two answers of a build stand for the same of the definitions.
use mathlib.Core.Path.{◌≡◌, ap}
use Rattle.std.specs.Prelude.{Result, Ok, Err}
use Rattle.lists.specs.declared.refusal.Refusal.{Refusal}
use Rattle.lists.specs.Values.{number_of, place_of}
use Rattle.lists.proofs.Unique.{refusal_unique}
use Rattle.build.specs.declared.calls.Built.{Built}
use Rattle.build.specs.Values.{as_built}

-- what the answer stands for fixes it
pub built_unique : (a b : Result Built Refusal) → as_built a ≡ as_built b → a ≡ b
built_unique (Ok a) (Ok b) e =
    let nodes : a.nodes ≡ b.nodes = cc in
    let depth : a.depth ≡ b.depth = cc in
    λ i. Ok (record { nodes = nodes i; depth = depth i })
built_unique (Ok a) (Err r) e = cc
built_unique (Err r) (Ok a) e = cc
built_unique (Err r) (Err q) e =
    let number : number_of r ≡ number_of q = cc in
    let place : place_of r ≡ place_of q = cc in
    ap Err (refusal_unique r q number place)
