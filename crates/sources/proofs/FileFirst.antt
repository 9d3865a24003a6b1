-- Questions 1 to 6: loading a file answers with the number of the first no. Readings are joined as in FileQuestions,
-- here with the number of the question that ends them.
use Prim.Native.Nat.{ℕ, zero, suc, ◌+◌, ◌≤◌}
use mathlib.Core.Path.{◌≡◌, refl, sym, ap, ◌∙◌, subst}
use mathlib.Core.List.{List, [], ◌∷◌, ◌++◌, append_assoc}
use mathlib.Core.Bool.{Bool, true, false, cond, ◌&&◌}
use native.Mathlib.Omega.{arith}
use lib.ListN.{length}
use lib.Dec.{ltb, leb, eqb}
use Rattle.model.specs.Base.{collect}
use Rattle.model.specs.Number.{lead, formed, form_to, head_to, number_to, number_at}
use Rattle.model.specs.Config.{
  most_drivers,
  most_devices,
  most_objects,
  most_values,
  most_entries,
  most_edition,
  serial_edition,
  most_serial,
  most_kind,
  most_class,
  most_mode,
  blank_objects,
  blank_devices,
  blank_values,
  blank,
}
use Rattle.model.specs.ConfigFile.{
  ranged,
  field_at,
  field_to,
  field_question,
  on_field,
  Progress,
  read,
  stop,
  on_reading,
  turns,
  done,
  field,
  absent,
  read_row,
  counts_to,
  counts_at,
  owner_least,
  owner_most,
  object,
  object_to,
  serial_row,
  device,
  device_to,
  stored_most,
  entry,
  entry_to,
  set_count,
  value,
  value_to,
  objects_at,
  objects_to,
  devices_at,
  devices_to,
  values_at,
  values_to,
  paired,
  restrained,
  accepted,
  refused,
  ask,
  judged,
  load,
}
use Rattle.model.specs.FileQuestions.{
  Asked,
  rest,
  size,
  asks,
  counts_asked,
  object_asked,
  serial_asked,
  device_asked,
  entry_asked,
  turns_asked,
  value_asked,
  on_head,
  on_group,
  objects_asked,
  devices_asked,
  values_asked,
  after_objects,
  after_counts as afterAsked,
  asked,
  told,
}
use Rattle.model.specs.Gate.{or_else, Outcome}
use Rattle.sources.specs.Gate.{file_source}
use Rattle.sources.specs.FirstNo.{
  Question,
  question,
  number_questions,
  ends_at,
  file_questions,
  call_questions,
  FileFirstNo,
  OperateFirstNo,
}
use Rattle.model.specs.Num.{Num}
use Rattle.model.specs.Num.{Got, Bad}
use Rattle.model.specs.declared.Fault.TheVariants.{Cut, Form}
use Rattle.model.specs.Field.{Value, No}
use Rattle.model.specs.Reading.{Reading}
use Rattle.model.specs.Reading.{At, Refused}
use Rattle.model.specs.Head.{Head}
use Rattle.model.specs.Head.{Counted, Stopped}
use Rattle.model.specs.declared.Counts.{Counts}
use Rattle.model.specs.declared.Objects.{Objects}
use Rattle.model.specs.declared.Devices.{Devices}
use Rattle.model.specs.declared.Values.{Values}
use Rattle.model.specs.declared.Config.{Config}
use Rattle.model.specs.Loaded.{Loaded}
use Rattle.sources.proofs.FileQuestions.{load_told}
use Rattle.sources.proofs.FirstNo.{first, first-exact, answer-first}
use Rattle.sources.proofs.FileCalls.{file-operate}

-- a reading that goes on has no question that ended it; one that does not has been ended by question q
abbrev Fits : Reading → ℕ → Type 0
Fits (At next) n = n ≡ 0
Fits (Refused q) n = (n ≡ q) × (1 ≤ q)

abbrev FitsHead : Head → ℕ → Type 0
FitsHead (Counted c next) n = n ≡ 0
FitsHead (Stopped q) n = (n ≡ q) × (1 ≤ q)

abbrev FitsTable : {T : Type 0} → Progress T → ℕ → Type 0
FitsTable p n = Fits p.reading n

or_else_none : (n : ℕ) → or_else n 0 ≡ n
or_else_none zero = refl
or_else_none (suc n) = refl

or_else_on : (n m : ℕ) → n ≡ 0 → or_else n m ≡ m
or_else_on n m e = ap (λ (k : ℕ). or_else k m) e

or_else_stop : (n m : ℕ) → 1 ≤ n → or_else n m ≡ n
or_else_stop zero m h = absurd (omega arith)
or_else_stop (suc n) m h = refl

or_else_assoc : (n m k : ℕ) → or_else n (or_else m k) ≡ or_else (or_else n m) k
or_else_assoc zero m k = refl
or_else_assoc (suc n) m k = refl

module _ (s : List ℕ) where
  -- the question that ends the numbers asked for, 0 if none does
  abbrev ending : List Asked → ℕ
  ending [] = 0
  ending (a ∷ l) = or_else (field_question (field_at s a.at a.low a.high)) (ending l)

  ending_join : (l m : List Asked) → ending (l ++ m) ≡ or_else (ending l) (ending m)
  ending_join [] m = refl
  ending_join (a ∷ l) m =
      ap (or_else (field_question (field_at s a.at a.low a.high))) (ending_join l m)
      ∙ or_else_assoc (field_question (field_at s a.at a.low a.high)) (ending l) (ending m)

  -- what follows a part that went on, and a part that ended
  join_on : (l m : List Asked) → ending l ≡ 0 → ending m ≡ ending (l ++ m)
  join_on l m e = sym (ending_join l m ∙ or_else_on (ending l) (ending m) e)

  join_stop : (l : List Asked) (q : ℕ) → ending l ≡ q → ending (l ++ []) ≡ q
  join_stop l q e = ending_join l [] ∙ (or_else_none (ending l) ∙ e)

  -- a number, and what follows it
  asks_on : {R : Type 0} (On : R → ℕ → Type 0) (halt : ℕ → R) → ((q : ℕ) → 1 ≤ q → On (halt q) q)
      → (at low high : ℕ) (k : ℕ → ℕ → R) (g : ℕ → ℕ → List Asked)
      → ((v next : ℕ) → On (k v next) (ending (g v next)))
      → On (on_field halt (field_at s at low high) k) (ending (asks s at low high g))
  unfolding on_field asks field_to ranged
  asks_on On halt ended at low high k g h = go (number_at s at)
    where
      test : (v next : ℕ) (t : Bool) → On (on_field halt (cond t (Value v next) (No 3)) k)
          (or_else (field_question (cond t (Value v next) (No 3)))
          (ending (on_field (λ q. []) (cond t (Value v next) (No 3)) g)))
      test v next true = h v next
      test v next false = ended 3 (omega arith)

      go : (n : Num) → On (on_field halt (ranged low high n) k)
          (or_else (field_question (ranged low high n)) (ending (on_field (λ q. []) (ranged low high n) g)))
      go (Got v next) = test v next (leb low v && leb v high)
      go (Bad Cut) = ended 1 (omega arith)
      go (Bad Form) = ended 2 (omega arith)

  -- a reading, and what follows it
  next_on : {T : Type 0} (r : Reading) (l : List Asked) → Fits r (ending l) → (t : T) (k : ℕ → Progress T)
      (g : ℕ → List Asked) → ((next : ℕ) → FitsTable (k next) (ending (g next)))
      → FitsTable (on_reading (stop t) r k) (ending (l ++ on_reading (λ q. []) r g))
  unfolding on_reading stop
  next_on (At next) l e t k g h = subst (FitsTable (k next)) (join_on l (g next) e) (h next)
  next_on (Refused q) l e t k g h = (join_stop l q e.0, e.1)

  turns_on : {T : Type 0} (g : ℕ → ℕ → T → List Asked) (f : ℕ → ℕ → T → Progress T)
      → ((i at : ℕ) (t : T) → FitsTable (f i at t) (ending (g i at t))) → (n i at : ℕ) (t : T)
      → FitsTable (turns f n i at t) (ending (turns_asked g f n i at t))
  unfolding turns turns_asked read
  turns_on g f h zero i at t = refl
  turns_on g f h (suc n) i at t =
      let p = f (i + 1) at t in
      next_on p.reading (g (i + 1) at t) (h (i + 1) at t) p.table _
      (λ next. turns_asked g f n (i + 1) next p.table) (λ next. turns_on g f h n (i + 1) next p.table)

  -- the counts or a group, and what follows
  head_on : {T : Type 0} (t : T) (p : Head) (l : List Asked) → FitsHead p (ending l) → (k : Counts → ℕ → Progress T)
      (g : Counts → ℕ → List Asked) → ((n : Counts) (next : ℕ) → FitsTable (k n next) (ending (g n next)))
      → FitsTable (on_head (stop t) p k) (ending (l ++ on_head (λ q. []) p g))
  unfolding on_head stop
  head_on t (Counted n next) l e k g h = subst (FitsTable (k n next)) (join_on l (g n next) e) (h n next)
  head_on t (Stopped q) l e k g h = (join_stop l q e.0, e.1)

  group_on : {S T : Type 0} (t : T) (p : Progress S) (l : List Asked) → FitsTable p (ending l)
      → (k : S → ℕ → Progress T) (g : S → ℕ → List Asked)
      → ((u : S) (next : ℕ) → FitsTable (k u next) (ending (g u next)))
      → FitsTable (on_group (stop t) p k) (ending (l ++ on_group (λ q. []) p g))
  unfolding on_group
  group_on t p l e k g h = next_on p.reading l e t (k p.table) (g p.table) (h p.table)

  -- the groups of a file
  counts_on : FitsHead (counts_at s) (ending (counts_asked s))
  unfolding counts_to counts_asked
  counts_on =
      asks_on FitsHead Stopped (λ q l. (refl, l)) 0 1 most_edition _ _ λ edition a.
      asks_on FitsHead Stopped (λ q l. (refl, l)) a 0 most_drivers _ _ λ d b.
      asks_on FitsHead Stopped (λ q l. (refl, l)) b 0 most_devices _ _ λ v c.
      asks_on FitsHead Stopped (λ q l. (refl, l)) c 0 most_objects _ _ λ n e.
      asks_on FitsHead Stopped (λ q l. (refl, l)) e 0 most_values _ (λ k next. []) λ k next.
      refl

  -- a number of a table's body
  field_on : {T : Type 0} (t : T) (at low high : ℕ) (k : ℕ → ℕ → Progress T) (g : ℕ → ℕ → List Asked)
      → ((v next : ℕ) → FitsTable (k v next) (ending (g v next)))
      → FitsTable (on_field (stop t) (field_at s at low high) k) (ending (asks s at low high g))
  unfolding stop
  field_on t at low high k g h = asks_on FitsTable (stop t) (λ q l. (refl, l)) at low high k g h

  module _ (counts : Counts) where
    object_on : (o at : ℕ) (t : Objects) → FitsTable (object s counts o at t) (ending (object_asked s counts o at t))
    unfolding object_to object_asked read
    object_on o at t =
        field_on t at 1 most_kind _ _ λ kind a.
        field_on t a 0 most_class _ _ λ class b.
        field_on t b (owner_least class) (owner_most counts class) _ (λ owner next. []) λ owner next.
        refl

    serial_on : (t : Devices) (at : ℕ) (k : List ℕ → ℕ → Progress Devices)
        → ((vs : List ℕ) (next : ℕ) → FitsTable (k vs next) 0)
        → FitsTable (read_row s at (serial_row counts) (stop t) k) (ending (serial_asked s counts at))
    unfolding serial_asked
    serial_on t at k h = go (leb serial_edition counts.edition)
      where
        go : (b : Bool)
            → FitsTable (read_row s at (cond b (field 0 most_serial λ serial. done) (absent done)) (stop t) k)
            (ending (cond b (asks s at 0 most_serial λ serial next. []) []))
        go true = field_on t at 0 most_serial _ (λ serial next. []) λ serial next. h (serial ∷ []) next
        go false = h (0 ∷ []) at

    device_on : (v at : ℕ) (t : Devices) → FitsTable (device s counts v at t) (ending (device_asked s counts v at t))
    unfolding device_to device_asked read
    device_on v at t =
        field_on t at 0 counts.values _ _ λ w next.
        serial_on t next _ λ vs end. refl

    entry_on : (kinds : List ℕ) (v j at : ℕ) (t : Values)
        → FitsTable (entry s counts kinds v j at t) (ending (entry_asked s counts kinds j at t))
    unfolding entry_to entry_asked read
    entry_on kinds v j at t =
        field_on t at 1 counts.objects _ _ λ o a.
        field_on t a 1 most_mode _ _ λ mode b.
        field_on t b 0 (stored_most counts kinds o mode) _ (λ w next. []) λ w next.
        refl

    value_on : (kinds : List ℕ) (v at : ℕ) (t : Values)
        → FitsTable (value s counts kinds v at t) (ending (value_asked s counts kinds v at t))
    unfolding value_to value_asked
    value_on kinds v at t =
        field_on t at 0 most_entries _ _ λ n next.
        turns_on (entry_asked s counts kinds) (entry s counts kinds v) (entry_on kinds v) n 0 next (set_count t v n)

  -- the last group ends the reading
  last_on : (p : Progress Values) (k : Values → ℕ → Config) (n : ℕ) → FitsTable p n
      → FitsTable (on_group (stop blank) p λ values end. read (k values end) end) n
  unfolding on_group on_reading stop read
  last_on p k n h = go p.reading h
    where
      go : (r : Reading) → Fits r n → FitsTable (on_reading (stop blank) r λ end. read (k p.table end) end) n
      go (At next) h = h
      go (Refused q) h = h

  -- a file that is not read to its end was ended by a number, and by the first question that it answers with no
  told_on : FitsTable (told s) (ending (asked s))
  unfolding told asked objects_asked objects_to devices_asked devices_to values_asked values_to
  told_on =
      head_on blank (counts_at s) (counts_asked s) counts_on _ (afterAsked s) λ counts a.
      group_on blank (objects_at s counts a) (objects_asked s counts a)
      (turns_on (object_asked s counts) (object s counts) (object_on counts) counts.objects 0 a blank_objects) _
      (after_objects s counts) λ objects b.
      group_on blank (devices_at s counts b) (devices_asked s counts b)
      (turns_on (device_asked s counts) (device s counts) (device_on counts) counts.devices 0 b blank_devices) _
      (λ devices c. values_asked s counts objects.kind c) λ devices c.
      last_on (values_at s counts objects.kind c) _ _
      (turns_on (value_asked s counts objects.kind) (value s counts objects.kind)
      (value_on counts objects.kind) counts.values 0 c blank_values)

  -- 1, then 2, then 3 of a number
  three : (a : Asked) (m : List Question)
      → first (number_questions s a ++ m) ≡ or_else (field_question (field_at s a.at a.low a.high)) (first m)
  unfolding field_to ranged number_to head_to form_to
  three a m = go (ltb (lead (rest s a)) (length (rest s a))) (formed (rest s a) (lead (rest s a))) _
    where
      tested : (t : Bool) (v next : ℕ)
          → first (question 3 t ∷ m) ≡ or_else (field_question (cond t (Value v next) (No 3))) (first m)
      tested true v next = refl
      tested false v next = refl

      go : (t u : Bool) (next : ℕ)
          → first (question 1 t ∷ question 2 u
          ∷ question 3 (leb a.low (size s a) && leb (size s a) a.high) ∷ m)
          ≡ or_else (field_question (ranged a.low a.high
          (cond t (cond u (Got (size s a) next) (Bad Form)) (Bad Cut)))) (first m)
      go true true next = tested (leb a.low (size s a) && leb (size s a) a.high) (size s a) next
      go true false next = refl
      go false u next = refl

  numbers-first : (l : List Asked) (m : List Question)
      → first (collect (number_questions s) l ++ m) ≡ or_else (ending l) (first m)
  numbers-first [] m = refl
  numbers-first (a ∷ l) m =
      three a (collect (number_questions s) l ++ m)
      ∙ (ap (or_else (field_question (field_at s a.at a.low a.high))) (numbers-first l m)
      ∙ or_else_assoc (field_question (field_at s a.at a.low a.high)) (ending l) (first m))

  -- then 4, 5 and 6
  module _ (table : Config) where
    abbrev last : Reading → List Question
    last r =
        question 4 (ends_at (length s) r) ∷ question 5 (paired table) ∷ question 6 (restrained table) ∷ []

    finished : (r : Reading) → Fits r (ending (asked s))
        → (on_reading refused r (λ end. judged s end table)).answer ≡ or_else (ending (asked s)) (first (last r))
    unfolding on_reading refused judged ask accepted
    finished (At end) f =
        go (eqb end (length s)) (paired table) (restrained table)
        ∙ sym (or_else_on (ending (asked s)) (first (last (At end))) f)
      where
        go : (t u w : Bool) → (ask 4 t (ask 5 u (ask 6 w (accepted table)))).answer
            ≡ first (question 4 t ∷ question 5 u ∷ question 6 w ∷ [])
        go true true true = refl
        go true true false = refl
        go true false w = refl
        go false u w = refl
    finished (Refused q) f =
        sym (ap (λ (n : ℕ). or_else n (first (last (Refused q)))) f.0
        ∙ or_else_stop q (first (last (Refused q))) f.1)

  load-first : (load s).answer ≡ first (file_questions s)
  load-first =
      ap (λ (l : Loaded). l.answer) (load_told s)
      ∙ (finished (told s).table (told s).reading told_on
      ∙ sym (numbers-first (asked s) (last (told s).table (told s).reading)))

  -- the file's questions, and then a call's
  then_first : (m : List Question) → first (file_questions s ++ m) ≡ or_else (load s).answer (first m)
  then_first m =
      ap first (append_assoc (collect (number_questions s) (asked s)) end m)
      ∙ (numbers-first (asked s) (end ++ m)
      ∙ (ap (or_else (ending (asked s)))
      (go (ends_at (length s) (told s).reading) (paired (told s).table) (restrained (told s).table))
      ∙ (or_else_assoc (ending (asked s)) (first end) (first m)
      ∙ ap (λ (n : ℕ). or_else n (first m)) (sym (load-first ∙ numbers-first (asked s) end)))))
    where
      end : List Question
      end = last (told s).table (told s).reading

      go : (t u w : Bool) → first (question 4 t ∷ question 5 u ∷ question 6 w ∷ m)
          ≡ or_else (first (question 4 t ∷ question 5 u ∷ question 6 w ∷ [])) (first m)
      go true true true = refl
      go true true false = refl
      go true false w = refl
      go false u w = refl

-- the theorem: questions 1 to 6
pub file-first_no : FileFirstNo
file-first_no file n =
    let r = first-exact (file_questions file) n in
    ((λ e. r.0 (sym (load-first file) ∙ e)), λ y. load-first file ∙ r.1 y)

-- ... and 1 to 23 of a call with a file
pub operate-first_no : OperateFirstNo
operate-first_no file area bytes answer n =
    let qs = call_questions (file_source file) area bytes answer in
    let e = sym (ap (λ (x : Outcome). x.0) (file-operate file area bytes answer))
    ∙ (answer-first (file_source file) area bytes answer ∙ sym (then_first file qs)) in
    let r = first-exact (file_questions file ++ qs) n in
    ((λ k. r.0 (sym e ∙ k)), λ y. e ∙ r.1 y)
