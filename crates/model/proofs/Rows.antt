-- The rows of the configuration file, read and written: numbers in their ranges are read back from their bytes, and
-- numbers that were read are in their ranges and were written in those bytes. So it is with one row for each number.
use Prim.Native.Nat.{ℕ, zero, suc, ◌+◌, ◌≤◌, ◌<◌}
use mathlib.Core.Path.{◌≡◌, refl, sym, ap, ◌∙◌, subst}
use mathlib.Core.List.{List, [], ◌∷◌, ◌++◌, append_assoc, append-nil}
use mathlib.Core.Bool.{Bool, true, false, ◌&&◌, cond, false≢true}
use native.Mathlib.Decide.{dec_le}
use native.Mathlib.Omega.{arith}
use lib.ListN.{length, get_or, drop, length-append}
use lib.Seq.{drop-drop, drop-append_seam}
use lib.Dec.{leb, eqb}
use borrow.Author.Tests.{leb-true, le-leb, eqb-true}
use Rattle.model.specs.Base.{all}
use Rattle.model.specs.Number.{most_number, number_at, bytes_of}
use Rattle.model.specs.ConfigFile.{
  ranged,
  field_at,
  field_to,
  on_field,
  Progress,
  read,
  stop,
  on_reading,
  turns,
  Row,
  done,
  field,
  absent,
  read_row,
}
use Rattle.model.specs.ConfigWrite.{rows_from, Filled, row_bytes, rows_bytes, in_row, right_row}
use Rattle.model.specs.declared.Fault.TheVariants.{Cut, Form}
use Rattle.model.specs.Num.{Num}
use Rattle.model.specs.Num.{Got, Bad}
use Rattle.model.specs.Field.{Value, No}
use Rattle.model.specs.Reading.{Reading}
use Rattle.model.specs.Reading.{At, Refused}
use Rattle.model.proofs.Lists.{and_l, and_r, both_true}
use Rattle.model.proofs.NumberBytes.{Bytes, Here, number_read, number-written}

-- no range of a row ends above the largest number
abbrev pub Bounded : Row → Type 0
Bounded done = Unit {0}
Bounded (field low high rest) = (high ≤ most_number) × ((v : ℕ) → v ≤ high → Bounded (rest v))
Bounded (absent rest) = Bounded rest

-- a row of n numbers, whatever they are
abbrev pub Wide : Row → ℕ → Type 0
Wide done n = 0 ≡ n
Wide (field low high rest) zero = ⊥
Wide (field low high rest) (suc n) = (v : ℕ) → Wide (rest v) n
Wide (absent rest) zero = ⊥
Wide (absent rest) (suc n) = Wide rest n

pub row_width : (row : Row) (n : ℕ) → Wide row n → (vs : List ℕ) → in_row row vs ≡ true → length vs ≡ n
unfolding in_row
row_width done n w [] h = w
row_width done n w (v ∷ vs) h = absurd (false≢true h)
row_width (field low high rest) zero w vs h = absurd w
row_width (field low high rest) (suc n) w [] h = absurd (false≢true h)
row_width (field low high rest) (suc n) w (v ∷ vs) h =
    ap suc (row_width (rest v) n (w v) vs (and_r (leb low v && leb v high) (in_row (rest v) vs) h))
row_width (absent rest) zero w vs h = absurd w
row_width (absent rest) (suc n) w [] h = absurd (false≢true h)
row_width (absent rest) (suc n) w (v ∷ vs) h = ap suc (row_width rest n w vs (and_r (eqb v 0) (in_row rest vs) h))

-- the first number of a row is in its range, and the others are in theirs
pub row_head : (low high : ℕ) (rest : ℕ → Row) (v : ℕ) (vs : List ℕ) → in_row (field low high rest) (v ∷ vs) ≡ true
    → (low ≤ v) × (v ≤ high) × (in_row (rest v) vs ≡ true)
unfolding in_row
row_head low high rest v vs h =
    let p = and_l (leb low v && leb v high) (in_row (rest v) vs) h in (
      leb-true low v (and_l (leb low v) (leb v high) p),
      leb-true v high (and_r (leb low v) (leb v high) p),
      and_r (leb low v && leb v high) (in_row (rest v) vs) h,
    )

pub row_intro : (low high : ℕ) (rest : ℕ → Row) (v : ℕ) (vs : List ℕ) → low ≤ v → v ≤ high → in_row (rest v) vs ≡ true
    → in_row (field low high rest) (v ∷ vs) ≡ true
unfolding in_row
row_intro low high rest v vs p q r = both_true (both_true (le-leb low v p) (le-leb v high q)) r

pub row_done : in_row done [] ≡ true
unfolding in_row
row_done = refl

-- lists of known length
pub list_1 : (vs : List ℕ) → length vs ≡ 1 → vs ≡ get_or vs 0 0 ∷ []
list_1 [] h = absurd (omega arith)
list_1 (a ∷ []) h = refl
list_1 (a ∷ b ∷ vs) h = absurd (omega arith)

pub list_2 : (vs : List ℕ) → length vs ≡ 2 → vs ≡ get_or vs 0 0 ∷ get_or vs 1 0 ∷ []
list_2 [] h = absurd (omega arith)
list_2 (a ∷ []) h = absurd (omega arith)
list_2 (a ∷ b ∷ []) h = refl
list_2 (a ∷ b ∷ c ∷ vs) h = absurd (omega arith)

pub list_3 : (vs : List ℕ) → length vs ≡ 3 → vs ≡ get_or vs 0 0 ∷ get_or vs 1 0 ∷ get_or vs 2 0 ∷ []
list_3 [] h = absurd (omega arith)
list_3 (a ∷ []) h = absurd (omega arith)
list_3 (a ∷ b ∷ []) h = absurd (omega arith)
list_3 (a ∷ b ∷ c ∷ []) h = refl
list_3 (a ∷ b ∷ c ∷ d ∷ vs) h = absurd (omega arith)

pub list_5 : (vs : List ℕ) → length vs ≡ 5
    → vs ≡ get_or vs 0 0 ∷ get_or vs 1 0 ∷ get_or vs 2 0 ∷ get_or vs 3 0 ∷ get_or vs 4 0 ∷ []
list_5 [] h = absurd (omega arith)
list_5 (a ∷ []) h = absurd (omega arith)
list_5 (a ∷ b ∷ []) h = absurd (omega arith)
list_5 (a ∷ b ∷ c ∷ []) h = absurd (omega arith)
list_5 (a ∷ b ∷ c ∷ d ∷ []) h = absurd (omega arith)
list_5 (a ∷ b ∷ c ∷ d ∷ e ∷ []) h = refl
list_5 (a ∷ b ∷ c ∷ d ∷ e ∷ f ∷ vs) h = absurd (omega arith)

-- bytes of rows
pub rows_append : (r t : List Filled) → rows_bytes (r ++ t) ≡ rows_bytes r ++ rows_bytes t
unfolding rows_bytes
rows_append [] t = refl
rows_append (a ∷ r) t =
    ap (λ (l : List ℕ). row_bytes a.row a.numbers ++ l) (rows_append r t) ∙ sym (append_assoc (row_bytes
    a.row a.numbers) (rows_bytes r) (rows_bytes t))

-- writing, then reading
module _ (s : List ℕ) (end : ℕ) where
  here_on : (at : ℕ) (r l : List ℕ) → Here s end at (r ++ l) → Here s end (at + length r) l
  here_on at r l h = record {
    rest =
        sym (drop-drop (length r) at s) ∙ (ap (drop (length r)) h.rest ∙ drop-append_seam r l);
    total = let e = length-append r l in let t = h.total in omega arith;
  }

  pub here_assoc : (at : ℕ) (a b c : List ℕ) → Here s end at ((a ++ b) ++ c) → Here s end at (a ++ (b ++ c))
  here_assoc at a b c h = subst (Here s end at) (append_assoc a b c) h

  field-read : (at low high v : ℕ) (l : List ℕ) → low ≤ v → v ≤ high → high ≤ most_number → Here s end at
      (bytes_of v ++ l)
      → field_at s at low high ≡ Value v (at + length (bytes_of v))
  unfolding field_to ranged
  field-read at low high v l p q m h =
      rw (number_read s at v l (omega arith) h.rest, le-leb low v p, le-leb v high q)

  -- numbers in the ranges of a row are read from their bytes, and what is behind them is next
  pub row_read : {R : Type 0} (stop : ℕ → R) (row : Row) → Bounded row → (vs : List ℕ) → in_row row vs ≡ true
      → (k : List ℕ → ℕ → R) (at : ℕ) (l : List ℕ) → Here s end at (row_bytes row vs ++ l)
      → (next : ℕ) × (read_row s at row stop k ≡ k vs next) × Here s end next l
  unfolding in_row row_bytes on_field
  row_read stop done b [] i k at l h = (at, refl, h)
  row_read stop done b (v ∷ vs) i k at l h = absurd (false≢true i)
  row_read stop (field low high rest) b [] i k at l h = absurd (false≢true i)
  row_read stop (field low high rest) b (v ∷ vs) i k at l h =
      let p = and_l (leb low v && leb v high) (in_row (rest v) vs) i in
      let hi = leb-true v high (and_r (leb low v) (leb v high) p) in
      let g = here_assoc at (bytes_of v) (row_bytes (rest v) vs) l h in
      let e = field-read at low high v (row_bytes (rest v) vs ++ l) (leb-true low v (and_l (leb low v)
      (leb v high) p)) hi b.0 g in
      let (next, f, n) =
      row_read stop (rest v) (b.1 v hi) vs (and_r (leb low v && leb v high) (in_row (rest v) vs) i)
      (λ ws next. k (v ∷ ws) next) (at + length (bytes_of v)) l
      (here_on at (bytes_of v) (row_bytes (rest v) vs ++ l) g) in
      (next, rw e f, n)
  row_read stop (absent rest) b [] i k at l h = absurd (false≢true i)
  row_read stop (absent rest) b (v ∷ vs) i k at l h =
      let zero-here = eqb-true v 0 (and_l (eqb v 0) (in_row rest vs) i) in
      let (next, f, n) =
      row_read stop rest b vs (and_r (eqb v 0) (in_row rest vs) i) (λ ws next. k (0 ∷ ws) next) at l h in
      (next, f ∙ ap (λ (x : ℕ). k (x ∷ vs) next) (sym zero-here), n)

-- a table with each of the n numbers after i put into it, in order
unfoldable pub steps : {T : Type 0} → (ℕ → T → T) → ℕ → ℕ → T → T
steps step zero i t = t
steps step (suc n) i t = steps step n (i + 1) (step (i + 1) t)

module _ {T : Type 0} (s : List ℕ) (end : ℕ) (g : ℕ → List Filled) (step : ℕ → T → T) (f : ℕ → ℕ → T → Progress T)
    (m : ℕ)
    (turn : (i : ℕ) → i < m → (at : ℕ) (t : T) (l : List ℕ) → Here s end at (rows_bytes (g (i + 1)) ++ l)
    → (next : ℕ) × (f (i + 1) at t ≡ read (step (i + 1) t) next) × Here s end next l) where
  -- the bytes of the rows of all numbers are read, each number's into the table
  turns_from : (n i at : ℕ) (t : T) (l : List ℕ) → i + n ≡ m → Here s end at (rows_bytes (rows_from g n i) ++ l)
      → (next : ℕ) × (turns f n i at t ≡ read (steps step n i t) next) × Here s end next l
  unfolding rows_from rows_bytes turns steps read on_reading
  turns_from zero i at t l e h = (at, refl, h)
  turns_from (suc n) i at t l e h =
      let r = rows_from g n (i + 1) in
      let q =
      subst (λ (x : List ℕ). Here s end at (x ++ l)) (rows_append (g (i + 1)) r) h in
      let (a, p, k) = turn i (omega arith) at t (rows_bytes r ++ l) (here_assoc s end at (rows_bytes (g (i + 1)))
      (rows_bytes r) l q) in
      let (next, u, z) = turns_from n (i + 1) a (step (i + 1) t) l (omega arith) k in
      (next, rw p u, z)

  pub turns-read : (at : ℕ) (t : T) (l : List ℕ) → Here s end at (rows_bytes (rows_from g m 0) ++ l)
      → (next : ℕ) × (turns f m 0 at t ≡ read (steps step m 0 t) next) × Here s end next l
  turns-read at t l h = turns_from m 0 at t l (omega arith) h

-- reading, then writing
module _ (s : List ℕ) (bytes : Bytes s) {R : Type 0} (Q : R → Type 0) (stop : ℕ → R)
    (refusal : (q : ℕ) → 1 ≤ q → Q (stop q)) where
  field-written : (at low high : ℕ) (k : ℕ → ℕ → R)
      → ((v next : ℕ) → leb low v && leb v high ≡ true → drop at s ≡ bytes_of v ++ drop next s → Q (k v next))
      → Q (on_field stop (field_at s at low high) k)
  unfolding field_to ranged on_field
  field-written at low high k h = go (number_at s at) refl
    where
      ranged_in : (v next : ℕ) → number_at s at ≡ Got v next → (t : Bool) → leb low v && leb v high ≡ t
          → Q (on_field stop (cond t (Value v next) (No 3)) k)
      ranged_in v next e true p = h v next p (number-written s at bytes e)
      ranged_in v next e false p = refusal 3 (omega arith)

      go : (n : Num) → number_at s at ≡ n → Q (on_field stop (ranged low high n) k)
      go (Got v next) e = ranged_in v next e (leb low v && leb v high) refl
      go (Bad Cut) e = refusal 1 (omega arith)
      go (Bad Form) e = refusal 2 (omega arith)

  -- what follows a row holds, if it holds of all numbers in its ranges that were written there
  pub row_written : (row : Row) (k : List ℕ → ℕ → R) (at : ℕ)
      → ((vs : List ℕ) (next : ℕ) → in_row row vs ≡ true → drop at s ≡ row_bytes row vs ++ drop next s → Q (k vs next))
      → Q (read_row s at row stop k)
  unfolding in_row row_bytes
  row_written done k at h = h [] at refl refl
  row_written (field low high rest) k at h =
      field-written at low high _ λ v a p e.
      row_written (rest v) (λ vs next. k (v ∷ vs) next) a λ vs next i w.
      h (v ∷ vs) next (both_true p i)
      (e ∙ (ap (λ (l : List ℕ). bytes_of v ++ l) w ∙ sym (append_assoc (bytes_of v) (row_bytes (rest v) vs)
      (drop next s))))
  row_written (absent rest) k at h =
      row_written rest (λ vs next. k (0 ∷ vs) next) at λ vs next i w.
      h (0 ∷ vs) next (both_true refl i) w

-- what holds of the place and the table where the reading ended well
abbrev pub EndAt : {T : Type 0} → (ℕ → T → Type 0) → Reading → T → Type 0
EndAt Q (At next) t = Q next t
EndAt Q (Refused q) t = 1 ≤ q

abbrev pub Ended : {T : Type 0} → (ℕ → T → Type 0) → Progress T → Type 0
Ended Q p = EndAt Q p.reading p.table

pub ended_map : {T : Type 0} (P Q : ℕ → T → Type 0) → ((next : ℕ) (t : T) → P next t → Q next t) → (p : Progress T)
    → Ended P p → Ended Q p
ended_map {T} P Q f p h = go p.reading p.table h
  where
    go : (r : Reading) (t : T) → EndAt P r t → EndAt Q r t
    go (At next) t k = f next t k
    go (Refused q) t k = k

-- rows were written from `at` on, which are now the rows of the numbers after i; all are in range, and the rows up
-- to i stay
pub record Written {T : Type 0} (s : List ℕ) (told : T → ℕ → List Filled)
    (Fit : T → Type 0) (before : T) (at i n next : ℕ) (t : T) : Type 0 where
  pub fit : Fit t
  pub bytes : drop at s ≡ rows_bytes (rows_from (told t) n i) ++ drop next s
  pub right : (k : ℕ) → i < k → k ≤ i + n → all right_row (told t k) ≡ true
  pub stays : (k : ℕ) → k ≤ i → told t k ≡ told before k

module _ {T : Type 0} (s : List ℕ) (told : T → ℕ → List Filled) (Fit : T → Type 0)
    (f : ℕ → ℕ → T → Progress T) (m : ℕ)
    (turn : (i : ℕ) → i < m → (at : ℕ) (t : T) → Fit t → Ended (Written s told Fit t at i 1) (f (i + 1) at t)) where
  turns_back : (n i at : ℕ) (t : T) → i + n ≡ m → Fit t → Ended (Written s told Fit t at i n) (turns f n i at t)
  unfolding turns read stop on_reading rows_from rows_bytes
  turns_back zero i at t e h =
      record { fit = h; bytes = refl; right = λ k low high. absurd (omega arith); stays = λ k high. refl }
  turns_back (suc n) i at t e h =
      go (f (i + 1) at t) (turn i (omega arith) at t h)
      (λ (next : ℕ) (u : T) (k : Fit u). turns_back n (i + 1) next u (omega arith) k)
    where
      join : (a : ℕ) (u : T) → Written s told Fit t at i 1 a u → (next : ℕ) (w : T)
          → Written s told Fit u a (i + 1) n next w → Written s told Fit t at i (suc n) next w
      join a u p next w q = record {
        fit = q.fit;
        bytes =
            p.bytes
            ∙ (ap (λ (x : List Filled). rows_bytes (x ++ []) ++ drop a s) (sym (q.stays (i + 1) (omega arith)))
            ∙ (ap (λ (x : List ℕ). x ++ drop a s) (rows_append (told w (i + 1)) [] ∙ append-nil (rows_bytes
            (told w (i + 1))))
            ∙ (ap (λ (x : List ℕ). rows_bytes (told w (i + 1)) ++ x) q.bytes
            ∙ (sym (append_assoc (rows_bytes (told w (i + 1))) (rows_bytes (rows_from (told w) n (i + 1)))
            (drop next s))
            ∙ ap (λ (x : List ℕ). x ++ drop next s)
            (sym (rows_append (told w (i + 1)) (rows_from (told w) n (i + 1))))))));
        right = λ k low high. right k low high (dec_le k (i + 1));
        stays = λ k high. q.stays k (omega arith) ∙ p.stays k high;
      }
        where
          right : (k : ℕ) → i < k → k ≤ i + suc n → Dec (k ≤ i + 1) → all right_row (told w k) ≡ true
          right k low high (yes le) =
              ap (all right_row) (q.stays k (omega arith)) ∙ p.right k low (omega arith)
          right k low high (no gt) = q.right k (omega arith) (omega arith)

      on : (r : Reading) (u : T) → EndAt (Written s told Fit t at i 1) r u
          → ((next : ℕ) (u : T) → Fit u → Ended (Written s told Fit u next (i + 1) n) (turns f n (i + 1) next u))
          → Ended (Written s told Fit t at i (suc n)) (on_reading (stop u) r (λ next. turns f n (i + 1) next u))
      on (At a) u p r =
          ended_map (Written s told Fit u a (i + 1) n) (Written s told Fit t at i (suc n)) (join a u p)
          (turns f n (i + 1) a u) (r a u p.fit)
      on (Refused q) u p r = p

      go : (p : Progress T) → Ended (Written s told Fit t at i 1) p
          → ((next : ℕ) (u : T) → Fit u → Ended (Written s told Fit u next (i + 1) n) (turns f n (i + 1) next u))
          → Ended (Written s told Fit t at i (suc n))
          (on_reading (stop p.table) p.reading (λ next. turns f n (i + 1) next p.table))
      go p k r = on p.reading p.table k r

  pub turns-written : (at : ℕ) (t : T) → Fit t → Ended (Written s told Fit t at 0 m) (turns f m 0 at t)
  turns-written at t h = turns_back m 0 at t (omega arith) h
