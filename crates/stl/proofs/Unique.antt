-- What reading and writing an STL answer is fixed by what it stands for, and each call's answer and list by what it is called with.
-- A refusal leaves what was lent as it was.
use mathlib.Core.Path.{◌≡◌, refl, sym, ap, ◌∙◌}
use mathlib.Core.List.{List}
use Prim.Native.Nat.{ℕ}
use native.Mathlib.Omega.{arith}
use lib.ListN.{length}
use lib.Ieee.{Float}
use Rattle.spec_lists.specs.Refusals.{Verdict, passes, refused, after_verdict}
use Rattle.spec_stl.specs.Calls as Calls
use Rattle.spec_stl.specs.Calls.{counted_by, read_refusal, triangles_after, write_refusal, bytes_after}
use Rattle.std.specs.Prelude.{Result, Ok, Err}
use Rattle.lists.specs.declared.refusal.Refusal.{Refusal}
use Rattle.lists.specs.Values.{number_of, place_of}
use Rattle.lists.proofs.Unique.{refusal_unique}
use Rattle.stl.specs.Values.{as_counted, ReadIs, WrittenIs}

-- ---- one answer
-- what an answer stands for fixes it
pub counted_unique : (a b : Result ℕ Refusal) → as_counted a ≡ as_counted b → a ≡ b
counted_unique (Ok n) (Ok m) e = let same : n ≡ m = cc in ap Ok same
counted_unique (Ok n) (Err r) e = cc
counted_unique (Err r) (Ok n) e = cc
counted_unique (Err r) (Err q) e =
    let number : number_of r ≡ number_of q = cc in
    let place : place_of r ≡ place_of q = cc in
    ap Err (refusal_unique r q number place)

-- a read of the same bytes into the same list
pub read_is_unique : {s : List ℕ} {t t' t'' : List Float} {r r₂ : Result ℕ Refusal} → ReadIs s t r t' → ReadIs s t r₂ t'' → (r ≡ r₂) × (t' ≡ t'')
read_is_unique {r} {r₂} p q = (counted_unique r r₂ (p.answer ∙ sym q.answer), p.triangles ∙ sym q.triangles)

-- a write of the same triangles into the same bytes
pub written_is_unique : {xs : List Float} {out out' out'' : List ℕ} {r r₂ : Result ℕ Refusal} → WrittenIs xs out r out' → WrittenIs xs out r₂ out''
    → (r ≡ r₂) × (out' ≡ out'')
written_is_unique {r} {r₂} p q = (counted_unique r r₂ (p.answer ∙ sym q.answer), p.bytes ∙ sym q.bytes)

-- ---- a refusal
leaves : {A : Type 0} (v : Verdict) (number place count : ℕ) (new old : List A) → Calls.refused number place ≡ counted_by v count
    → after_verdict v new old ≡ old
leaves passes number place count new old e = absurd (let z : ◌≡◌ {A = ℕ} 0 1 = cc in omega arith)
leaves (refused n p) number place count new old e = refl

-- a read that is refused leaves the list as it was
pub refused_reads_nothing : {s : List ℕ} {t t' : List Float} {r : Refusal} → ReadIs s t (Err r) t' → t' ≡ t
unfolding triangles_after
refused_reads_nothing {s} {t} {r = r} is = is.triangles ∙ leaves (read_refusal s (length t)) (number_of r) (place_of r) _ _ t is.answer

-- a write that is refused leaves the bytes as they were
pub refused_writes_nothing : {xs : List Float} {out out' : List ℕ} {r : Refusal} → WrittenIs xs out (Err r) out' → out' ≡ out
unfolding bytes_after
refused_writes_nothing {xs} {out} {r = r} is = is.bytes ∙ leaves (write_refusal xs (length out)) (number_of r) (place_of r) _ _ out is.answer
