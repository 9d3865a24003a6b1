-- Laws of a session's rows: a row, nothing left, a session that is broken off, and a record with what follows it.
use Prim.Native.Nat.{ℕ, suc, ◌+◌, ◌≤◌, ◌<◌}
use mathlib.Core.Path.{◌≡◌, refl, sym, ◌∙◌, subst}
use mathlib.Core.List.{List, [], ◌∷◌, ◌++◌, append_assoc}
use native.Mathlib.Omega.{arith}
use lib.ListN.{length, take, drop}
use lib.Seq.{drop-drop}
use Rattle.model.specs.Number.{number_at}
use Rattle.model.specs.Gate.{operate}
use Rattle.model.specs.Separation.{answers_of}
use Rattle.model.specs.Office.{
  Session,
  ended,
  broken,
  preceded,
  cutting,
  space,
  newline,
  decimal,
  row,
  rows,
  cut_row,
  ending,
  calls_of,
  session_text,
}
use Rattle.model.specs.declared.Fault.{Fault}
use Rattle.model.specs.Num.{Got, Bad}
use Rattle.model.proofs.OfficeLaws.{cutting_end, cutting_bad, cutting_short, cutting-next}
use Rattle.page.specs.Page.{Put}
use Rattle.report.specs.Rows.{Rows}
use Rattle.page.proofs.Laying.{then, put_nil}

-- ---- a row
pub row_put : (at : ℕ) (out : List ℕ) (place n : ℕ) {p₁ p₂ p₃ r : ℕ} {out₁ out₂ out₃ out' : List ℕ}
    → Put (decimal place) at out p₁ out₁ → Put (space ∷ []) p₁ out₁ p₂ out₂ → Put (decimal n) p₂ out₂ p₃ out₃
    → Put (newline ∷ []) p₃ out₃ r out' → Put (row place n) at out r out'
row_put at out place n {p₁} {p₂} {p₃} {r} {out₁} {out₂} {out₃} {out'} a b c d =
    let bc = then p₁ out₁ (space ∷ []) (decimal n) b c in
    let abc = then at out (decimal place) (space ∷ decimal n) a bc in
    then at out (decimal place ++ space ∷ decimal n) (newline ∷ []) abc d

-- ---- a session
module _ (file : List ℕ) (s : Session) (place : ℕ) (area answer : List ℕ) (at : ℕ) (out : List ℕ) where
  pub rows-ended : s ≡ ended → at ≤ length out → Rows file s place area answer at out at area answer out
  rows-ended e h = rw e (put_nil at out h, refl, refl)

  pub rows-broken : s ≡ broken → {r : ℕ} {out' : List ℕ} → Put cut_row at out r out'
      → Rows file s place area answer at out r area answer out'
  rows-broken e p = rw e (p, refl, refl)

  module _ (bytes : List ℕ) (rest : Session) (e : s ≡ preceded bytes rest) {p : ℕ} {area₁ answer₁ out₁ : List ℕ} where
    pub rows_next : Put (row (suc place) (operate file area bytes answer).0) at out p out₁
        → area₁ ≡ (operate file area bytes answer).1 → answer₁ ≡ (operate file area bytes answer).2
        → {r : ℕ} {area' answer' out' : List ℕ}
        → Rows file rest (suc place) area₁ answer₁ p out₁ r area' answer' out'
        → Rows file s place area answer at out r area' answer' out'
    rows_next h a b {r} {area'} {answer'} {out'} k =
        let o = operate file area bytes answer in
        let k₁ = subst (λ (x : List ℕ). Rows file rest (suc place) area₁ x p out₁ r area' answer' out') b k in
        let k₂ = subst (λ (x : List ℕ). Rows file rest (suc place) x o.2 p out₁ r area' answer' out') a k₁ in
        let t = row (suc place) o.0 in
        let u = rows (suc place) (answers_of file o.1 (calls_of file o.1 o.2 rest.bytes)) in
        let whole : t ++ (u ++ ending rest.whole) ≡ session_text file area answer place (preceded bytes rest) =
        sym (append_assoc t u (ending rest.whole)) in
        rw e (
          subst (λ (x : List ℕ). Put x at out r out') whole (then at out t (u ++ ending rest.whole) h k₂.0),
          k₂.1,
          k₂.2,
        )

-- ---- the loop: what is left of the session, from here on, completes the whole
pub record Onward (file session area₀ answer₀ out₀ area answer out left : List ℕ) (place end : ℕ) : Type 0 where
  pub completes : (r : ℕ) (area' answer' out' : List ℕ)
      → Rows file (cutting 0 left) place area answer end out r area' answer' out'
      → Rows file (cutting 0 session) 0 area₀ answer₀ 0 out₀ r area' answer' out'

module _ {file session area₀ answer₀ out₀ area answer out left : List ℕ} {place end : ℕ}
    (k : Onward file session area₀ answer₀ out₀ area answer out left place end) where
  pub onward-done : length left ≤ 0 → end ≤ length out
      → Rows file (cutting 0 session) 0 area₀ answer₀ 0 out₀ end area answer out
  onward-done h l =
      k.completes end area answer out
      (rows-ended file (cutting 0 left) place area answer end out (cutting_end left h) l)

  pub onward_bad : (f : Fault) → 0 < length left → Bad f ≡ number_at left 0 → {r : ℕ} {out' : List ℕ}
      → Put cut_row end out r out' → Rows file (cutting 0 session) 0 area₀ answer₀ 0 out₀ r area answer out'
  onward_bad f h e {r} {out'} p =
      k.completes r area answer out'
      (rows-broken file (cutting 0 left) place area answer end out (cutting_bad (Bad f) left f h e refl) p)

  -- v is the length at the head of what is left
  module _ (v from : ℕ) (h : 0 < length left) (e : Got v from ≡ number_at left 0) where
    pub onward_short : length left < from + v → {r : ℕ} {out' : List ℕ} → Put cut_row end out r out'
        → Rows file (cutting 0 session) 0 area₀ answer₀ 0 out₀ r area answer out'
    onward_short l {r} {out'} p =
        k.completes r area answer out'
        (rows-broken file (cutting 0 left) place area answer end out
        (cutting_short (Got v from) left v from h e refl l) p)

    -- bytes are the record at the head, and after what follows it
    pub onward-next : (bytes after : List ℕ) → bytes ≡ take v (drop from left) → after ≡ drop v (drop from left)
        → from + v ≤ length left → {p : ℕ} {area₁ answer₁ out₁ : List ℕ}
        → Put (row (place + 1) (operate file area bytes answer).0) end out p out₁
        → area₁ ≡ (operate file area bytes answer).1 → answer₁ ≡ (operate file area bytes answer).2
        → Onward file session area₀ answer₀ out₀ area₁ answer₁ out₁ after (place + 1) p
    onward-next bytes after b w l {p} {area₁} {answer₁} {out₁} q a c = record {
      completes = λ r area' answer' out' x.
          let one : place + 1 ≡ suc place = omega arith in
          let m : after ≡ drop (from + v) left = w ∙ drop-drop v from left in
          let cut : cutting 0 left ≡ preceded bytes (cutting 0 after) =
          cutting-next (Got v from) left v from h e refl l ∙ rw (b, m) in
          let q₁ = subst (λ (j : ℕ). Put (row j (operate file area bytes answer).0) end out p out₁) one q in
          let x₁ = subst (λ (j : ℕ). Rows file (cutting 0 after) j area₁ answer₁ p out₁ r area' answer' out') one x in
          k.completes r area' answer' out'
          (rows_next file (cutting 0 left) place area answer end out bytes (cutting 0 after) cut q₁ a c x₁);
    }
