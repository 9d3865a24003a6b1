-- The writer by its ways out: its questions, its answers, a file that is loaded first, and the number for C.
use Prim.Native.Nat.{ℕ, ◌+◌, ◌*◌, ◌≤◌, ◌<◌}
use mathlib.Core.Path.{◌≡◌, refl, sym, ap, ◌∙◌}
use mathlib.Core.List.{List, ◌++◌}
use mathlib.Core.Bool.{true, false}
use native.Mathlib.Omega.{arith}
use lib.ListN.{length, drop}
use Rattle.std.specs.Prelude.{Result, Ok, Err}
use Rattle.std.specs.Result.{MatchResult, IsErrAnd}
use Rattle.model.specs.declared.Question.{Question}
use Rattle.model.specs.declared.Unwritten.{Unwritten}
use Rattle.model.specs.Answers.{number_of, answer_of, loaded_of, written_of}
use Rattle.model.specs.ConfigFile.{load, paired, restrained}
use Rattle.model.specs.ConfigFile as Load
use Rattle.config.proofs.Asked.{number_some}
use Rattle.model.specs.ConfigWrite.{file_of, in_ranges, write_question, write_answer, write_area}
use Rattle.model.specs.Rewriting.{kind_unit, refused_kind, short_kind}
use Rattle.model.specs.Rewriting.{coded, rewrite_answer, rewrite_area}
use Rattle.model.specs.declared.Config.{Config}
use Rattle.model.specs.Loaded.{Loaded}
use Rattle.model.specs.Written.{Written}
use Rattle.model.specs.Written.{Length, Refused, Short}
use Rattle.model.proofs.FileWritten.{ranges_asked, writable}
use Rattle.model.proofs.Rewriting.{
  write_refused,
  write_refused-area,
  write_short,
  write_done,
  rewrite_refused,
  rewrite_written,
}
use Rattle.page.specs.Page.{Placed}
use Rattle.page.proofs.Laying.{laid-whole}
use Rattle.sound.specs.Columns.{Within}
use Rattle.writer.proofs.Testing.{counts_within}

-- questions 3, 5 and 6, in this order
module _ (config : Config) where
  pub ask_three : false ≡ in_ranges config → 3 ≡ write_question config
  unfolding write_question
  ask_three e = rw (← e)

  module _ (a : true ≡ in_ranges config) where
    pub ranges_within : Within config.counts
    ranges_within = counts_within config.counts refl (ranges_asked config (sym a)).counts

    pub ask_five : false ≡ paired config → 5 ≡ write_question config
    unfolding write_question
    ask_five e = rw (← a, ← e)

    module _ (b : true ≡ paired config) where
      pub ask_six : false ≡ restrained config → 6 ≡ write_question config
      unfolding write_question
      ask_six e = rw (← a, ← b, ← e)

      pub ask_none : true ≡ restrained config → 0 ≡ write_question config
      unfolding write_question
      ask_none e = rw (← a, ← b, ← e)

-- a question that refuses as what was not written: what `map_err(Unwritten::Refused)` makes of an answer
abbrev pub Mapped : {T : Type 0} → Result T Question → Result T Unwritten → Type 0
Mapped r t = MatchResult r (λ x. t ≡ Ok x) (λ q. IsErrAnd t (λ y. y ≡ Unwritten.Refused q))

module _ {T : Type 0} where
  refused-as : (r : Result T Question) (u : Unwritten) → Mapped r (Err u)
      → (q : Question) × (r ≡ Err q) × (u ≡ Unwritten.Refused q)
  refused-as (Ok x) u h = absurd (cc)
  refused-as (Err q) u h = (q, refl, h)

  kept-as : (r : Result T Question) (t : T) → Mapped r (Ok t) → r ≡ Ok t
  kept-as (Ok x) t h = let e : t ≡ x = cc in cc
  kept-as (Err q) t h = absurd h

-- the answer and the area
module _ (config : Config) (area : List ℕ) (r : Result Unit Question) (e : answer_of r ≡ write_question config) where
  abbrev Meant : Written → List ℕ → Type 0
  Meant w after = (w ≡ write_answer config (length area)) × (after ≡ write_area config area)

  pub refused : (u : Unwritten) → Mapped r (Err u)
      → Meant (written_of (Err u)) area
  refused u h =
      let (q, k, z) = refused-as r u h in
      let d : number_of q ≡ write_question config = rw k at e in
      rw z (
        write_refused config (number_of q) (length area) d (number_some q),
        write_refused-area config (number_of q) area d (number_some q),
      )

  module _ (t : Unit) (h : Mapped r (Ok t)) where
    none : 0 ≡ write_question config
    none = rw (kept-as r t h) at e

    pub ranged : in_ranges config ≡ true
    ranged = (writable config (sym none)).0

    -- the length was found by putting the file down elsewhere
    module _ (n : ℕ) (there there₁ : List ℕ) (p : Placed (file_of config) 0 there n there₁) where
      long : n ≡ length (file_of config)
      long = omega (arith, p.0)

      pub short : length area < n → Meant (Short n) area
      short l = write_short config 0 n none refl long area l

      pub done : (m : ℕ) (after : List ℕ) → n ≤ length area → Placed (file_of config) 0 area m after
          → Meant (Length n) after
      done m after l k =
          write_done config 0 n none refl long area after l
          (k.1 ∙ laid-whole (file_of config) area (omega (arith, long))
          ∙ ap (λ (j : ℕ). file_of config ++ drop j area) (sym long))

-- a file that is loaded first
module _ (file out : List ℕ) (r : Result Config Question) (e : loaded_of r ≡ load file) where
  pub load_refused : (u : Unwritten) → Mapped r (Err u)
      → (written_of (Err u) ≡ rewrite_answer file (length out)) × (out ≡ rewrite_area file out)
  unfolding Load.refused
  load_refused u h =
      let (q, k, z) = refused-as r u h in
      let d : Load.refused (number_of q) ≡ load file = rw k at e in
      rw z
      (rewrite_refused file (number_of q) (length out) out (ap (λ (x : Loaded). x.answer) d) (number_some q))

  pub load_written : (config : Config) → Mapped r (Ok config)
      → {w : Written} {after : List ℕ} → w ≡ write_answer config (length out) → after ≡ write_area config out
      → (w ≡ rewrite_answer file (length out)) × (after ≡ rewrite_area file out)
  unfolding Load.accepted
  load_written config h p q =
      let d : Load.accepted config ≡ load file = rw (kept-as r config h) at e in
      let w = rewrite_written file 0 (length out) out (ap (λ (x : Loaded). x.answer) d) refl in (
        p ∙ ap (λ (x : Loaded). write_answer x.config (length out)) d ∙ w.0,
        q ∙ ap (λ (x : Loaded). write_area x.config out) d ∙ w.1,
      )

-- the number for C
module _ (w : Written) (n : ℕ) where
  pub code_length : w ≡ Length n → n ≡ coded w
  unfolding coded
  code_length e = rw e (omega arith)

  pub code_refused : w ≡ Refused n → refused_kind * kind_unit + n ≡ coded w
  unfolding coded
  code_refused e = rw e

  pub code_short : w ≡ Short n → short_kind * kind_unit + n ≡ coded w
  unfolding coded
  code_short e = rw e

pub ruleset ask_laws = (ask_three, ranges_within, ask_five, ask_six, ask_none)

pub ruleset code_laws = (code_length, code_refused, code_short)
