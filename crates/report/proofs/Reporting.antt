-- The whole text by its ways out: `long`, `line`, and the rows of a session.
use Prim.Native.Nat.{ℕ, zero, suc, ◌≤◌, ◌<◌}
use mathlib.Core.Path.{◌≡◌, refl, sym, ap, ◌∙◌, subst}
use mathlib.Core.List.{List, ◌∷◌, ◌++◌}
use mathlib.Core.Logic.{◌⊎◌, inl, inr}
use native.Mathlib.Omega.{arith}
use lib.ListN.{length, take, drop, replicate}
use lib.Seq.{length-take-le}
use borrow.Author.Tests.{lt-ltb, le-ltb}
use Rattle.model.specs.Config.{most_objects}
use Rattle.model.specs.ConfigFile.{load}
use Rattle.model.specs.State.{records, area_length}
use Rattle.model.specs.Gate.{state_bytes, make_fresh}
use Rattle.model.specs.Office.{
  most_file,
  most_session,
  most_text,
  cutting,
  long_row,
  line_row,
  session_text,
  blank_area,
  first_answer,
  judged_text,
  reported,
}
use Rattle.model.specs.Rewriting.{coded}
use Rattle.model.proofs.Facts.{room_most}
use Rattle.model.proofs.OfficeLength.{reported_length}
use Rattle.page.specs.Page.{reaches, Put, Counts}
use Rattle.page.proofs.Laying.{laid-whole, put_same}

module _ (file session : List ℕ) where
  judged : length file ≤ most_file → length session ≤ most_session
      → reported file session ≡ judged_text (load file).answer file session
  unfolding reported
  judged l m = rw (le-ltb most_file (length file) l, le-ltb most_session (length session) m)

  row_of : (n : ℕ) → (n ≡ 0 → ⊥) → judged_text n file session ≡ line_row n
  row_of zero h = absurd (h refl)
  row_of (suc n) h = refl

pub accepted-file : (file : List ℕ) {n : ℕ} → n ≡ (load file).answer → n ≡ 0 → (load file).answer ≡ 0
accepted-file file e z = sym e ∙ z

-- ---- the area before the first record: what is lent of zeros has the length that the line needs
zeros-part : (n m : ℕ) → n ≤ m → take n (replicate {A = ℕ} m 0) ≡ replicate n 0
zeros-part zero m h = refl
zeros-part (suc n) zero h = absurd (omega arith)
zeros-part (suc n) (suc m) h = ap (λ (l : List ℕ). 0 ∷ l) (zeros-part n m (omega arith))

module _ (file : List ℕ) (z : (load file).answer ≡ 0) (n : ℕ) (e : n ≡ coded (state_bytes file)) where
  told : n ≡ area_length (records (load file).config)
  unfolding coded state_bytes
  told = e ∙ rw z (omega arith)

  pub area-fits : n ≤ area_length most_objects
  area-fits = omega (arith, told, room_most (load file).config.counts.objects)

  pub area-lent : (zeros : List ℕ) → length zeros ≡ area_length most_objects → n ≡ length (take n zeros)
  area-lent zeros l = sym (length-take-le n zeros (omega (arith, area-fits, l)))

  pub area-blank : (zeros : List ℕ) → zeros ≡ replicate (area_length most_objects) 0 → take n zeros ≡ blank_area file
  area-blank zeros l =
      ap (take n) l
      ∙ (zeros-part n (area_length most_objects) area-fits ∙ ap (λ (k : ℕ). replicate {A = ℕ} k 0) told)

module _ (file session out : List ℕ) {r : ℕ} {out' : List ℕ} where
  pub from_fresh : (blank area : List ℕ) → blank ≡ blank_area file → area ≡ (make_fresh file blank).1
      → Put (session_text file area first_answer 0 (cutting 0 session)) 0 out r out'
      → Put (judged_text 0 file session) 0 out r out'
  from_fresh blank area b e p =
      subst (λ (a : List ℕ). Put (session_text file a first_answer 0 (cutting 0 session)) 0 out r out')
      (e ∙ ap (λ (a : List ℕ). (make_fresh file a).1) b) p

  pub too-long : (most_file < length file) ⊎ ((length file ≤ most_file) × (most_session < length session))
      → Put long_row 0 out r out' → Put (reported file session) 0 out r out'
  unfolding reported
  too-long (inl h) p = rw (lt-ltb most_file (length file) h) p
  too-long (inr (l, h)) p = rw (le-ltb most_file (length file) l, lt-ltb most_session (length session) h) p

  module _ (l : length file ≤ most_file) where
    module _ (m : length session ≤ most_session) (n : ℕ) (e : n ≡ (load file).answer) where
      pub refused : (n ≡ 0 → ⊥) → Put (line_row n) 0 out r out' → Put (reported file session) 0 out r out'
      refused h p =
          subst (λ (t : List ℕ). Put t 0 out r out')
          (sym (judged file session l m ∙ rw (← e) (row_of file session n h))) p

      pub accepted : n ≡ 0 → Put (judged_text 0 file session) 0 out r out' → Put (reported file session) 0 out r out'
      accepted z p =
          subst (λ (t : List ℕ). Put t 0 out r out') (sym (judged file session l m ∙ rw (← e, z))) p

-- ---- an area with room for every text
module _ (file session out : List ℕ) (room : length out ≡ most_text) {r : ℕ} {out' : List ℕ}
    (p : Put (reported file session) 0 out r out') where
  fits : length (reported file session) ≤ length out
  fits = rw room (reported_length file session)

  pub counted : r ≡ length (reported file session)
  unfolding reaches
  counted = omega (arith, p.0, fits)

  pub whole : out' ≡ reported file session ++ drop (length (reported file session)) out
  whole = p.1 ∙ laid-whole (reported file session) out fits

  pub counts : Counts r out'
  counts =
      let l = put_same 0 out (reported file session) p in
      let h : r ≤ length out' = omega (arith, counted, fits, l) in (h, sym (length-take-le r out' h))
