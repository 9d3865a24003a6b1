-- Request N1: what a file that is loaded and written again gives, for C and by the rewriting program.
use Prim.Native.Nat.{ℕ, ◌≤◌}
use mathlib.Core.Path.{◌≡◌, ap, ◌∙◌}
use mathlib.Core.List.{List, ◌++◌}
use mathlib.Core.Bool.{Bool, true, false, cond}
use native.Mathlib.Omega.{arith}
use lib.ListN.{length, drop}
use lib.Dec.{leb}
use borrow.Author.Tests.{le-leb, lt-leb}
use Rattle.sources.specs.Number.{Bytes}
use Rattle.model.specs.ConfigFile.{load}
use Rattle.model.specs.Office.{most_file}
use Rattle.model.specs.Rewriting.{coded, rewrite_answer, rewrite_area, rewrite_text, rewrite_file}
use Rattle.sources.specs.Rewriting.{RewrittenSame, SavedSame}
use Rattle.model.specs.Written.{Length, Short}
use Rattle.model.proofs.FileWritten.{writable}
use Rattle.model.proofs.FileLoaded.{loaded_written}
use Rattle.model.proofs.FileLength.{file-most}
use Rattle.model.proofs.Writable.{loaded_sound}
use Rattle.model.proofs.Rewriting.{rewrite_same, program_same}

-- ---- a file for C
module _ (file : List ℕ) where
  -- so of a call that answered and left what the definitions say
  pub rewritten_same : Bytes file → (before : List ℕ) {r : ℕ} {after : List ℕ}
      → r ≡ coded (rewrite_answer file (length before)) → after ≡ rewrite_area file before
      → RewrittenSame file before r after
  rewritten_same bytes before {r} {after} e a h =
      (λ l. go true (le-leb (length file) (length before) l), λ l. go false (lt-leb (length file) (length before) l))
    where
      go : (b : Bool) → leb (length file) (length before) ≡ b
          → (r ≡ coded (cond b (Length (length file)) (Short (length file))))
          × (after ≡ cond b (file ++ drop (length file) before) before)
      go b t =
          let s = rewrite_same file bytes h before in
          rw (← t) (e ∙ ap coded s.0, a ∙ s.1)

  -- no accepted file is longer than the program reads
  accepted-most : Bytes file → (load file).answer ≡ 0 → length file ≤ most_file
  accepted-most bytes h =
      let c = (load file).config in
      omega (arith, file-most c (writable c (loaded_sound file h)).0, ap length (loaded_written file bytes h))

-- ---- the program
module _ (file : List ℕ) where
  -- so of a call that put down what the definitions say
  pub saved_same : Bytes file → (text before : List ℕ) {k m : ℕ} {text' after : List ℕ}
      → k ≡ length (rewrite_text file) → text' ≡ rewrite_text file ++ drop (length (rewrite_text file)) text
      → m ≡ length (rewrite_file file) → after ≡ rewrite_file file ++ drop (length (rewrite_file file)) before
      → SavedSame file text before k text' m after
  saved_same bytes text before ek et em ea h =
      let (t, f) = program_same file (accepted-most file bytes h) bytes h in (
        ek ∙ ap length t,
        et ∙ ap (λ (l : List ℕ). l ++ drop (length l) text) t,
        em ∙ ap length f,
        ea ∙ ap (λ (l : List ℕ). l ++ drop (length l) before) f,
      )
