-- What reading and writing an image answer is fixed by what it stands for, and each call's answer and lists by what it is
-- called with.
use mathlib.Core.Path.{◌≡◌, sym, ap, ◌∙◌}
use mathlib.Core.List.{List}
use Prim.Native.Nat.{ℕ}
use lib.Ieee.{Float}
use Rattle.spec_image.specs.Image.{Image}
use Rattle.std.specs.Prelude.{Result, Ok, Err}
use Rattle.lists.specs.declared.refusal.Refusal.{Refusal}
use Rattle.lists.specs.Values.{number_of, place_of, as_settings}
use Rattle.lists.proofs.Unique.{refusal_unique, settings_unique}
use Rattle.image.specs.declared.read.ImageRead.{ImageRead}
use Rattle.image.specs.Values.{answer_of, as_written, ReadIs, WrittenIs}

-- ---- read
-- what the answer of reading stands for fixes it
pub read_unique : (a b : Result ImageRead Refusal) → answer_of a ≡ answer_of b → a ≡ b
read_unique (Ok a) (Ok b) e =
    let s : as_settings a.settings ≡ as_settings b.settings = cc in
    let t : a.triangles ≡ b.triangles = cc in
    let n : a.nodes ≡ b.nodes = cc in
    ap Ok (λ i. record { settings = settings_unique a.settings b.settings s i; triangles = t i; nodes = n i })
read_unique (Ok a) (Err r) e = cc
read_unique (Err r) (Ok b) e = cc
read_unique (Err r) (Err q) e =
    let n : number_of r ≡ number_of q = cc in
    let p : place_of r ≡ place_of q = cc in
    ap Err (refusal_unique r q n p)

-- a read of the same bytes into the same lists
pub read_is_unique : {s : List ℕ} {r r₂ : Result ImageRead Refusal}
    → {t : List Float} {o l : List ℕ} {b t' t'' : List Float} {o' l' o'' l'' : List ℕ} {b' b'' : List Float}
    → ReadIs s r t o l b t' o' l' b' → ReadIs s r₂ t o l b t'' o'' l'' b''
    → (r ≡ r₂) × (t' ≡ t'') × (o' ≡ o'') × (l' ≡ l'') × (b' ≡ b'')
read_is_unique {r} {r₂} p q =
    let e : answer_of r ≡ answer_of r₂ = p.answer ∙ sym q.answer in
    let f = rw e at p.filled in
    let g = q.filled in (
      read_unique r r₂ e,
      f.triangles ∙ sym g.triangles,
      f.order ∙ sym g.order,
      f.links ∙ sym g.links,
      f.boxes ∙ sym g.boxes,
    )

-- ---- written
-- what the answer of writing stands for fixes it
pub written_unique : (a b : Result ℕ Refusal) → as_written a ≡ as_written b → a ≡ b
written_unique (Ok m) (Ok n) e = let k : m ≡ n = cc in ap Ok k
written_unique (Ok m) (Err r) e = cc
written_unique (Err r) (Ok n) e = cc
written_unique (Err r) (Err q) e =
    let n : number_of r ≡ number_of q = cc in
    let p : place_of r ≡ place_of q = cc in
    ap Err (refusal_unique r q n p)

-- a write of the same lists into the same bytes
pub written_is_unique : {x : Image} {r r₂ : Result ℕ Refusal} {out out' out'' : List ℕ} → WrittenIs x r out out' → WrittenIs x r₂ out out'' → (r ≡ r₂)
    × (out' ≡ out'')
written_is_unique {r} {r₂} p q = (written_unique r r₂ (p.answer ∙ sym q.answer), p.filled ∙ sym q.filled)
