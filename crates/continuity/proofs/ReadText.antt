-- Question 10 of the gates of before: reading by today's reader and refusing larger codes is the text of then.
use Prim.Native.Nat.{ℕ, ◌≤◌}
use mathlib.Core.Path.{◌≡◌, refl, sym, ap, ◌∙◌}
use mathlib.Core.List.{List}
use mathlib.Core.Bool.{Bool, true, false, ◌&&◌, true≢false}
use native.Mathlib.Omega.{arith}
use lib.ListN.{length}
use lib.Dec.{leb, eqb}
use borrow.Author.Tests.{leb-true, le-leb, eqb-true}
use Rattle.model.specs.Number.{number_to}
use Rattle.model.specs.Operation.{
  most_code,
  family_of,
  actor_of,
  with_head,
  unread,
  refused,
  taken,
  only,
  arguments_by,
  after_code_by,
  Parsed,
  ended,
  read_operation_by,
}
use Rattle.model.specs.Num.{Num}
use Rattle.model.specs.Num.{Got, Bad}
use Rattle.model.specs.Parse.{Parse}
use Rattle.continuity.specs.Past.{Past, coded, reading_in, code_in, read_then}
use Rattle.continuity.proofs.RecordLength.{args_took}

module _ (past : Past) (codes : past.code ≤ most_code) (s : List ℕ) (enough : most_code ≤ past.limits.number) where
  abbrev most : ℕ
  most = past.limits.number

  abbrev shut : Parse → Parsed
  shut p = ended (eqb p.answer 0 && eqb p.at (length s)) p

  abbrev trimmed : Parsed → Parsed
  trimmed r = coded (leb r.1.code past.code) r

  -- what is refused has code 0
  shut_refused : trimmed (shut refused) ≡ shut refused
  unfolding refused ended coded with_head
  shut_refused = ap (λ (t : Bool). coded t (10, unread)) (le-leb 0 past.code (omega arith))

  unread_stays : trimmed (10, unread) ≡ (10, unread)
  unfolding with_head coded
  unread_stays = ap (λ (u : Bool). coded u (10, unread)) (le-leb 0 past.code (omega arith))

  -- what was read has the code that was read
  shut_read : (p : Parse) (code : ℕ) → (p.answer ≡ 0 → p.operation.code ≡ code)
      → (t : Bool) → leb code past.code ≡ t → trimmed (shut p) ≡ shut (only t p)
  unfolding only refused ended coded
  shut_read p code named true e = go (eqb p.answer 0) (eqb p.at (length s)) refl
    where
      go : (x y : Bool) → eqb p.answer 0 ≡ x → trimmed (ended (x && y) p) ≡ ended (x && y) p
      go true true ex =
          ap (λ (u : Bool). coded u (0, p.operation))
          (ap (λ (c : ℕ). leb c past.code) (named (eqb-true p.answer 0 ex)) ∙ e)
      go true false ex = unread_stays
      go false y ex = unread_stays
  shut_read p code named false e = go (eqb p.answer 0) (eqb p.at (length s)) refl
    where
      go : (x y : Bool) → eqb p.answer 0 ≡ x → trimmed (ended (x && y) p) ≡ (10, unread)
      go true true ex =
          ap (λ (u : Bool). coded u (0, p.operation))
          (ap (λ (c : ℕ). leb c past.code) (named (eqb-true p.answer 0 ex)) ∙ e)
      go true false ex = unread_stays
      go false y ex = unread_stays

  after-code : (code at : ℕ) → trimmed (shut (after_code_by most s code at)) ≡ shut (code_in past s code at)
  unfolding after_code_by code_in only
  after-code code at = go (leb 1 code) (leb code most_code) (leb code past.code) refl refl
    where
      p : Parse
      p = arguments_by most (family_of code) (actor_of code) code s at

      go : (x y z : Bool) → leb code most_code ≡ y → leb code past.code ≡ z
          → trimmed (shut (only (x && y) p)) ≡ shut (only (x && z) p)
      go false y z ey ez = shut_refused
      go true true z ey ez =
          shut_read p code
          (λ h. (args_took most most enough s (family_of code) (actor_of code) code at h).named) z ez
      go true false true ey ez =
          absurd (true≢false (sym (le-leb code most_code (omega (arith, leb-true code past.code ez, codes))) ∙ ey))
      go true false false ey ez = shut_refused

  pub read_text : reading_in past s ≡ read_then past s
  unfolding reading_in read_then read_operation_by taken
  read_text = go (number_to most s 0)
    where
      go : (n : Num) → trimmed (shut (taken n (after_code_by most s))) ≡ shut (taken n (code_in past s))
      go (Bad f) = shut_refused
      go (Got code at) = after-code code at
