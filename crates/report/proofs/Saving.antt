-- Request N1: what the rewriting program prints and writes, by its ways out.
use Prim.Native.Nat.{ℕ, zero, suc, ◌≤◌, ◌<◌}
use mathlib.Core.Path.{◌≡◌, refl, sym, ap, ◌∙◌, subst}
use mathlib.Core.List.{List, [], ◌++◌}
use native.Mathlib.Omega.{arith}
use lib.ListN.{length, drop, length-append, length-drop}
use lib.Seq.{length-take-le}
use Rattle.model.specs.ConfigFile.{load}
use Rattle.model.specs.ConfigWrite.{file_of}
use Rattle.model.specs.Office.{most_file, long_row, line_row}
use Rattle.model.specs.Rewriting.{most_word, rewrite_answer, rewrite_area, rewrite_text, rewrite_file}
use Rattle.model.specs.declared.Config.{Config}
use Rattle.model.specs.Written.{Written}
use Rattle.model.specs.Written.{Length, Refused, Short}
use Rattle.model.proofs.FileWritten.{writable}
use Rattle.model.proofs.FileLength.{file-most}
use Rattle.model.proofs.Writable.{loaded_sound}
use Rattle.model.proofs.Rewriting.{
  write_done,
  rewrite_refused,
  rewrite_written,
  program_long,
  program_refused,
  program_accepted,
  text_most,
}
use Rattle.page.specs.Page.{reaches, Put, Counts}
use Rattle.page.proofs.Laying.{laid-whole}

-- a text stands at the start of an area that has room for it, and r counts its bytes
pub record Down (t area : List ℕ) (r : ℕ) (area' : List ℕ) : Type 0 where
  pub count : r ≡ length t
  pub whole : area' ≡ t ++ drop (length t) area
  pub counts : Counts r area'

counted : (r : ℕ) (area : List ℕ) → r ≤ length area → Counts r area
counted r area h = (h, sym (length-take-le r area h))

module _ (t area : List ℕ) (h : length t ≤ length area) where
  -- what follows the text keeps the area's length
  same : length (t ++ drop (length t) area) ≡ length area
  same = simp (length-append, length-drop) (omega arith)

  down : (r : ℕ) (area' : List ℕ) → r ≡ length t → area' ≡ t ++ drop (length t) area → Down t area r area'
  down r area' e w = record {
    count = e;
    whole = w;
    counts = counted r area' (omega (arith, ap length w, same));
  }

  pub down_put : {r : ℕ} {area' : List ℕ} → Put t 0 area r area' → Down t area r area'
  unfolding reaches
  down_put {r} {area'} p = down r area' (omega (arith, p.0)) (p.1 ∙ laid-whole t area h)

-- nothing stands there
pub down_none : (area : List ℕ) → Down [] area 0 area
down_none area = down [] area (omega arith) 0 area refl refl

-- ---- the answer of loading and writing, with room for every file
module _ (file out : List ℕ) (room : length out ≡ most_file) where
  abbrev line : Config
  line = (load file).config

  abbrev Case : Written → Type 0
  Case (Length n) =
      ((load file).answer ≡ 0) × (n ≡ length (file_of line)) × (rewrite_area file out ≡ file_of line ++ drop n out)
  Case (Refused q) = (q ≡ (load file).answer) × (q ≡ 0 → ⊥) × (rewrite_area file out ≡ out)
  Case (Short n) = ⊥

  rewrite_case : (a : ℕ) → a ≡ (load file).answer → Case (rewrite_answer file (length out))
  rewrite_case zero e =
      let q = loaded_sound file (sym e) in
      let n = length (file_of line) in
      let l : n ≤ length out = omega (arith, room, file-most line (writable line q).0) in
      let w = rewrite_written file 0 (length out) out e refl in
      let d = write_done line 0 n (sym q) refl refl out (file_of line ++ drop n out) l refl in
      subst Case (d.0 ∙ w.0) (sym e, refl, sym (d.1 ∙ w.1))
  rewrite_case (suc q) e =
      let r = rewrite_refused file (suc q) (length out) out e (λ z. absurd (omega arith)) in
      subst Case r.0 (e, (λ z. absurd (omega arith)), sym r.1)

  case_of : (w : Written) → w ≡ rewrite_answer file (length out) → Case w
  case_of w e = subst Case (sym e) (rewrite_case (load file).answer refl)

-- ---- text and file, as the contract has them
module _ (file text out : List ℕ) where
  abbrev pub Saved : ℕ → List ℕ → ℕ → List ℕ → Type 0
  Saved k text' m out' =
      (k ≡ length (rewrite_text file)) × ((text' ≡ rewrite_text file ++ drop (length (rewrite_text file)) text)
      × ((m ≡ length (rewrite_file file)) × ((out' ≡ rewrite_file file ++ drop (length (rewrite_file file)) out)
      × (Counts k text' × Counts m out'))))

  both : (t f : List ℕ) → rewrite_text file ≡ t → rewrite_file file ≡ f → {k m : ℕ} {text' out' : List ℕ}
      → Down t text k text' → Down f out m out' → Saved k text' m out'
  both t f p q {k} {m} {text'} {out'} d e =
      let d₁ = subst (λ (x : List ℕ). Down x text k text') (sym p) d in
      let e₁ = subst (λ (x : List ℕ). Down x out m out') (sym q) e in
      (d₁.count, (d₁.whole, (e₁.count, (e₁.whole, (d₁.counts, e₁.counts)))))

  -- a text of the program's fits
  put_down : length text ≡ most_word → (t : List ℕ) → rewrite_text file ≡ t → {k : ℕ} {text' : List ℕ}
      → Put t 0 text k text' → Down t text k text'
  put_down word t e p = down_put t text (omega (arith, word, text_most file, ap length e)) p

  pub saved_long : length text ≡ most_word → most_file < length file → {k : ℕ} {text' : List ℕ}
      → Put long_row 0 text k text' → Saved k text' 0 out
  saved_long word h p =
      let (t, f) = program_long file h in
      both long_row [] t f (put_down word long_row t p) (down_none out)

  module _ (l : length file ≤ most_file) (room : length out ≡ most_file) {out' : List ℕ}
      (a : out' ≡ rewrite_area file out) where
    pub saved_file : (n : ℕ) → Length n ≡ rewrite_answer file (length out) → Saved 0 text n out'
    saved_file n e =
        let (y, m, r) = case_of file out room (Length n) e in
        let (t, f) = program_accepted file l y in
        let c = (load file).config in
        let fits : length (file_of c) ≤ length out =
        omega (arith, room, file-most c (writable c (loaded_sound file y)).0) in
        both [] (file_of c) t f (down_none text)
        (down (file_of c) out fits n out' m (a ∙ r ∙ ap (λ (j : ℕ). file_of c ++ drop j out) m))

    pub saved_refused : length text ≡ most_word → (q : ℕ) → Refused q ≡ rewrite_answer file (length out)
        → {k : ℕ} {text' : List ℕ} → Put (line_row q) 0 text k text' → Saved k text' 0 out'
    saved_refused word q e {k} {text'} p =
        let (y, h, r) = case_of file out room (Refused q) e in
        let (t, f) = program_refused file l q y h in
        both (line_row q) [] t f (put_down word (line_row q) t p)
        (subst (λ (x : List ℕ). Down [] out 0 x) (sym (a ∙ r)) (down_none out))

    pub never_short : (n : ℕ) → Short n ≡ rewrite_answer file (length out) → ⊥
    never_short n e = case_of file out room (Short n) e
