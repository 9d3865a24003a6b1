-- Questions 1 to 6: `load` answers 0 exactly if each is a yes. What is read goes on exactly as long as the numbers that
-- are asked for pass, by one law for each way in which readings are joined.
use Prim.Native.Nat.{ℕ, zero, suc, ◌+◌, ◌≤◌}
use mathlib.Core.Path.{◌≡◌, refl, sym, ap, ◌∙◌, subst}
use mathlib.Core.Logic.{◌↔◌}
use mathlib.Core.List.{List, [], ◌∷◌, ◌++◌, Memᴰ}
use mathlib.Core.Bool.{Bool, true, false, cond, ◌&&◌, false≢true}
use native.Mathlib.Omega.{arith}
use lib.ListN.{length}
use lib.Dec.{leb, eqb}
use borrow.Author.Tests.{eqb-true, eq-eqb}
use Rattle.model.specs.Base.{all}
use Rattle.model.specs.Number.{number_at}
use Rattle.model.specs.Config.{
  most_drivers,
  most_devices,
  most_objects,
  most_values,
  most_entries,
  most_edition,
  serial_edition,
  most_serial,
  most_kind,
  most_class,
  most_mode,
  blank_objects,
  blank_devices,
  blank_values,
  blank,
}
use Rattle.model.specs.ConfigFile.{
  ranged,
  field_at,
  field_to,
  on_field,
  Progress,
  read,
  stop,
  on_reading,
  turns,
  done,
  field,
  absent,
  read_row,
  counts_to,
  counts_at,
  owner_least,
  owner_most,
  object,
  object_to,
  serial_row,
  device,
  device_to,
  stored_most,
  entry,
  entry_to,
  set_count,
  value,
  value_to,
  objects_at,
  objects_to,
  devices_at,
  devices_to,
  values_at,
  values_to,
  paired,
  restrained,
  accepted,
  refused,
  ask,
  judged,
  after_counts,
  after_group,
  groups_to,
  load_to,
  load,
}
use Rattle.model.specs.FileQuestions.{
  Asked,
  rest,
  asks,
  counts_asked,
  object_asked,
  serial_asked,
  device_asked,
  entry_asked,
  turns_asked,
  value_asked,
  on_head,
  on_group,
  objects_asked,
  devices_asked,
  values_asked,
  after_objects,
  after_counts as afterAsked,
  asked,
  told,
  FileYes,
}
use Rattle.model.specs.Num.{Num}
use Rattle.model.specs.Num.{Got, Bad}
use Rattle.model.specs.declared.Fault.TheVariants.{Cut, Form}
use Rattle.model.specs.Field.{Value, No}
use Rattle.model.specs.Reading.{Reading}
use Rattle.model.specs.Reading.{At, Refused}
use Rattle.model.specs.Head.{Head}
use Rattle.model.specs.Head.{Counted, Stopped}
use Rattle.model.specs.declared.Counts.{Counts}
use Rattle.model.specs.declared.Objects.{Objects}
use Rattle.model.specs.declared.Devices.{Devices}
use Rattle.model.specs.declared.Values.{Values}
use Rattle.model.specs.declared.Config.{Config}
use Rattle.model.specs.Loaded.{Loaded}
use Rattle.model.proofs.Lists.{both_true, all_mem}
use Rattle.model.proofs.FileNumbers.{is_value, passes, pass_yes, yes_pass}

-- a reading that passed, by a test, goes on; one that did not is refused by a question
abbrev Fits : Reading → Bool → Type 0
Fits (At next) t = t ≡ true
Fits (Refused q) t = (t ≡ false) × (1 ≤ q)

abbrev FitsHead : Head → Bool → Type 0
FitsHead (Counted n next) t = t ≡ true
FitsHead (Stopped q) t = (t ≡ false) × (1 ≤ q)

abbrev FitsTable : {T : Type 0} → Progress T → Bool → Type 0
FitsTable p t = Fits p.reading t

all_join : {A : Type 0} (p : A → Bool) (l m : List A) → all p (l ++ m) ≡ (all p l && all p m)
all_join p [] m = refl
all_join p (a ∷ l) m = ap (λ (t : Bool). p a && t) (all_join p l m) ∙ assoc (p a) (all p l) (all p m)
  where
    assoc : (t u w : Bool) → t && (u && w) ≡ ((t && u) && w)
    assoc true u w = refl
    assoc false u w = refl

-- joined readings go on exactly if all that is asked for in them passes
module _ (s : List ℕ) where
  abbrev pass : List Asked → Bool
  pass = all (passes s)

  -- a number, and what follows it
  asks_on : {R : Type 0} (On : R → Bool → Type 0) (halt : ℕ → R) → ((q : ℕ) → 1 ≤ q → On (halt q) false)
      → (at low high : ℕ) (k : ℕ → ℕ → R) (g : ℕ → ℕ → List Asked)
      → ((v next : ℕ) → On (k v next) (pass (g v next)))
      → On (on_field halt (field_at s at low high) k) (pass (asks s at low high g))
  unfolding on_field asks field_to ranged
  asks_on On halt ended at low high k g h = go (number_at s at)
    where
      test : (v next : ℕ) (t : Bool) → On (on_field halt (cond t (Value v next) (No 3)) k)
          (is_value (cond t (Value v next) (No 3)) && pass (on_field (λ q. []) (cond t (Value v next) (No 3)) g))
      test v next true = h v next
      test v next false = ended 3 (omega arith)

      go : (n : Num) → On (on_field halt (ranged low high n) k)
          (is_value (ranged low high n) && pass (on_field (λ q. []) (ranged low high n) g))
      go (Got v next) = test v next (leb low v && leb v high)
      go (Bad Cut) = ended 1 (omega arith)
      go (Bad Form) = ended 2 (omega arith)

  -- a reading, and what follows it
  next_on : {T : Type 0} (r : Reading) (l : List Asked) → Fits r (pass l) → (t : T) (k : ℕ → Progress T)
      (g : ℕ → List Asked) → ((next : ℕ) → FitsTable (k next) (pass (g next)))
      → FitsTable (on_reading (stop t) r k) (pass (l ++ on_reading (λ q. []) r g))
  unfolding on_reading stop
  next_on (At next) l e t k g h =
      subst (FitsTable (k next)) (sym (all_join (passes s) l (g next) ∙ ap (λ (b : Bool). b && pass (g next)) e))
      (h next)
  next_on (Refused q) l e t k g h = (all_join (passes s) l [] ∙ ap (λ (b : Bool). b && true) e.0, e.1)

  turns_on : {T : Type 0} (g : ℕ → ℕ → T → List Asked) (f : ℕ → ℕ → T → Progress T)
      → ((i at : ℕ) (t : T) → FitsTable (f i at t) (pass (g i at t))) → (n i at : ℕ) (t : T)
      → FitsTable (turns f n i at t) (pass (turns_asked g f n i at t))
  unfolding turns turns_asked read
  turns_on g f h zero i at t = refl
  turns_on g f h (suc n) i at t =
      let p = f (i + 1) at t in
      next_on p.reading (g (i + 1) at t) (h (i + 1) at t) p.table _
      (λ next. turns_asked g f n (i + 1) next p.table) (λ next. turns_on g f h n (i + 1) next p.table)

  -- the counts or a group, and what follows
  head_on : {T : Type 0} (t : T) (p : Head) (l : List Asked) → FitsHead p (pass l) → (k : Counts → ℕ → Progress T)
      (g : Counts → ℕ → List Asked) → ((n : Counts) (next : ℕ) → FitsTable (k n next) (pass (g n next)))
      → FitsTable (on_head (stop t) p k) (pass (l ++ on_head (λ q. []) p g))
  unfolding on_head stop
  head_on t (Counted n next) l e k g h =
      subst (FitsTable (k n next)) (sym (all_join (passes s) l (g n next) ∙ ap (λ (b : Bool). b && pass (g n next)) e))
      (h n next)
  head_on t (Stopped q) l e k g h = (all_join (passes s) l [] ∙ ap (λ (b : Bool). b && true) e.0, e.1)

  group_on : {S T : Type 0} (t : T) (p : Progress S) (l : List Asked) → FitsTable p (pass l)
      → (k : S → ℕ → Progress T) (g : S → ℕ → List Asked)
      → ((u : S) (next : ℕ) → FitsTable (k u next) (pass (g u next)))
      → FitsTable (on_group (stop t) p k) (pass (l ++ on_group (λ q. []) p g))
  unfolding on_group
  group_on t p l e k g h = next_on p.reading l e t (k p.table) (g p.table) (h p.table)

  -- the groups of a file
  counts_on : FitsHead (counts_at s) (pass (counts_asked s))
  unfolding counts_to counts_asked
  counts_on =
      asks_on FitsHead Stopped (λ q l. (refl, l)) 0 1 most_edition _ _ λ edition a.
      asks_on FitsHead Stopped (λ q l. (refl, l)) a 0 most_drivers _ _ λ d b.
      asks_on FitsHead Stopped (λ q l. (refl, l)) b 0 most_devices _ _ λ v c.
      asks_on FitsHead Stopped (λ q l. (refl, l)) c 0 most_objects _ _ λ n e.
      asks_on FitsHead Stopped (λ q l. (refl, l)) e 0 most_values _ (λ k next. []) λ k next.
      refl

  -- a number of a table's body
  field_on : {T : Type 0} (t : T) (at low high : ℕ) (k : ℕ → ℕ → Progress T) (g : ℕ → ℕ → List Asked)
      → ((v next : ℕ) → FitsTable (k v next) (pass (g v next)))
      → FitsTable (on_field (stop t) (field_at s at low high) k) (pass (asks s at low high g))
  unfolding stop
  field_on t at low high k g h = asks_on FitsTable (stop t) (λ q l. (refl, l)) at low high k g h

  module _ (counts : Counts) where
    object_on : (o at : ℕ) (t : Objects) → FitsTable (object s counts o at t) (pass (object_asked s counts o at t))
    unfolding object_to object_asked read
    object_on o at t =
        field_on t at 1 most_kind _ _ λ kind a.
        field_on t a 0 most_class _ _ λ class b.
        field_on t b (owner_least class) (owner_most counts class) _ (λ owner next. []) λ owner next.
        refl

    serial_on : (t : Devices) (at : ℕ) (k : List ℕ → ℕ → Progress Devices)
        → ((vs : List ℕ) (next : ℕ) → FitsTable (k vs next) true)
        → FitsTable (read_row s at (serial_row counts) (stop t) k) (pass (serial_asked s counts at))
    unfolding serial_asked
    serial_on t at k h = go (leb serial_edition counts.edition)
      where
        go : (b : Bool)
            → FitsTable (read_row s at (cond b (field 0 most_serial λ serial. done) (absent done)) (stop t) k)
            (pass (cond b (asks s at 0 most_serial λ serial next. []) []))
        go true = field_on t at 0 most_serial _ (λ serial next. []) λ serial next. h (serial ∷ []) next
        go false = h (0 ∷ []) at

    device_on : (v at : ℕ) (t : Devices) → FitsTable (device s counts v at t) (pass (device_asked s counts v at t))
    unfolding device_to device_asked read
    device_on v at t =
        field_on t at 0 counts.values _ _ λ w next.
        serial_on t next _ λ vs end. refl

    entry_on : (kinds : List ℕ) (v j at : ℕ) (t : Values)
        → FitsTable (entry s counts kinds v j at t) (pass (entry_asked s counts kinds j at t))
    unfolding entry_to entry_asked read
    entry_on kinds v j at t =
        field_on t at 1 counts.objects _ _ λ o a.
        field_on t a 1 most_mode _ _ λ mode b.
        field_on t b 0 (stored_most counts kinds o mode) _ (λ w next. []) λ w next.
        refl

    value_on : (kinds : List ℕ) (v at : ℕ) (t : Values)
        → FitsTable (value s counts kinds v at t) (pass (value_asked s counts kinds v at t))
    unfolding value_to value_asked
    value_on kinds v at t =
        field_on t at 0 most_entries _ _ λ n next.
        turns_on (entry_asked s counts kinds) (entry s counts kinds v) (entry_on kinds v) n 0 next (set_count t v n)

  -- the last group ends the reading
  last_on : (p : Progress Values) (k : Values → ℕ → Config) (t : Bool) → FitsTable p t
      → FitsTable (on_group (stop blank) p λ values end. read (k values end) end) t
  unfolding on_group on_reading stop read
  last_on p k t h = go p.reading h
    where
      go : (r : Reading) → Fits r t → FitsTable (on_reading (stop blank) r λ end. read (k p.table end) end) t
      go (At next) h = h
      go (Refused q) h = h

  -- the whole file is read exactly if every number that it is read for passes
  told_on : FitsTable (told s) (pass (asked s))
  unfolding told asked objects_asked objects_to devices_asked devices_to values_asked values_to
  told_on =
      head_on blank (counts_at s) (counts_asked s) counts_on _ (afterAsked s) λ counts a.
      group_on blank (objects_at s counts a) (objects_asked s counts a)
      (turns_on (object_asked s counts) (object s counts) (object_on counts) counts.objects 0 a blank_objects) _
      (after_objects s counts) λ objects b.
      group_on blank (devices_at s counts b) (devices_asked s counts b)
      (turns_on (device_asked s counts) (device s counts) (device_on counts) counts.devices 0 b blank_devices) _
      (λ devices c. values_asked s counts objects.kind c) λ devices c.
      last_on (values_at s counts objects.kind c) _ _
      (turns_on (value_asked s counts objects.kind) (value s counts objects.kind)
      (value_on counts objects.kind) counts.values 0 c blank_values)

  -- the answer of what was read: 4, then 5, then 6
  abbrev finish : Progress Config → Loaded
  finish p = on_reading refused p.reading (λ end. judged s end p.table)

  after-counts : (p : Head) (l : Counts → ℕ → Loaded) (k : Counts → ℕ → Progress Config)
      → ((n : Counts) (next : ℕ) → l n next ≡ finish (k n next)) → after_counts p l ≡ finish (on_head (stop blank) p k)
  unfolding after_counts on_head on_reading stop
  after-counts (Counted n next) l k h = h n next
  after-counts (Stopped q) l k h = refl

  after_group_lem : {T : Type 0} (p : Progress T) (l : T → ℕ → Loaded) (k : T → ℕ → Progress Config)
      → ((t : T) (next : ℕ) → l t next ≡ finish (k t next)) → after_group p l ≡ finish (on_group (stop blank) p k)
  unfolding after_group on_group on_reading stop
  after_group_lem p l k h = go p.reading
    where
      go : (r : Reading) → on_reading refused r (l p.table) ≡ finish (on_reading (stop blank) r (k p.table))
      go (At next) = h p.table next
      go (Refused q) = refl

  load_told : load s ≡ finish (told s)
  unfolding load_to groups_to told read on_reading
  load_told =
      after-counts (counts_at s) _ _ λ counts a.
      after_group_lem (objects_at s counts a) _ _ λ objects b.
      after_group_lem (devices_at s counts b) _ _ λ devices c.
      after_group_lem (values_at s counts objects.kind c) _
      (λ values end.
      read (record { counts = counts; objects = objects; devices = devices; values = values }) end) λ values end.
      refl

  -- 0 exactly if the file was read, and 4, 5 and 6 are a yes
  ask_zero : (n : ℕ) (t : Bool) (rest : Loaded) → (ask (suc n) t rest).answer ≡ 0 → (t ≡ true) × (rest.answer ≡ 0)
  unfolding ask refused
  ask_zero n true rest h = (refl, h)
  ask_zero n false rest h = absurd (omega arith)

  ask-yes : (n : ℕ) (t : Bool) (rest : Loaded) → t ≡ true → ask n t rest ≡ rest
  unfolding ask
  ask-yes n true rest h = refl
  ask-yes n false rest h = absurd (false≢true h)

  at_same : (m n : ℕ) → At m ≡ At n → m ≡ n
  at_same m n e = ap place e
    where
      place : Reading → ℕ
      place (At next) = next
      place (Refused q) = 0

  mem_all : (l : List Asked) → ((a : Asked) → Memᴰ a l → passes s a ≡ true) → pass l ≡ true
  mem_all [] h = refl
  mem_all (a ∷ l) h = both_true (h a (Memᴰ.head refl)) (mem_all l (λ b m. h b (Memᴰ.tail m)))

  module _ (table : Config) where
    -- what was read, where it ended, and whether all that was asked for passed
    abbrev Yes : Reading → Type 0
    Yes r = ((end : ℕ) → r ≡ At end → end ≡ length s) × (paired table ≡ true) × (restrained table ≡ true)

    finished : (r : Reading) → Fits r (pass (asked s))
        → (on_reading refused r (λ end. judged s end table)).answer ≡ 0 → (pass (asked s) ≡ true) × Yes r
    unfolding on_reading refused judged
    finished (At end) f h =
        let (h₄, r₄) = ask_zero 3 (eqb end (length s)) _ h in
        let (h₅, r₅) = ask_zero 4 (paired table) _ r₄ in
        let (h₆, r₆) = ask_zero 5 (restrained table) _ r₅ in
        (f, ((λ e p. subst (λ (n : ℕ). n ≡ length s) (at_same end e p) (eqb-true end (length s) h₄)), h₅, h₆))
    finished (Refused q) f h = absurd (let l = f.1 in omega arith)

    finishing : (r : Reading) → Fits r (pass (asked s)) → pass (asked s) ≡ true → Yes r
        → (on_reading refused r (λ end. judged s end table)).answer ≡ 0
    unfolding on_reading judged accepted
    finishing (At end) f h y =
        ap (λ (l : Loaded). l.answer)
        (ask-yes 4 (eqb end (length s)) _ (eq-eqb end (length s) (y.0 end refl))
        ∙ (ask-yes 5 (paired table) _ y.1 ∙ ask-yes 6 (restrained table) _ y.2))
    finishing (Refused q) f h y = absurd (false≢true (sym f.0 ∙ h))

  -- questions 1 to 6: 0 exactly if each is a yes
  pub file-yes : ((load s).answer ≡ 0) ↔ FileYes s
  file-yes = (
    (λ h.
        let (p, y) = finished (told s).table (told s).reading told_on (sym answer ∙ h) in
        record {
          y1 = λ a m. (pass_yes s a (all_mem (passes s) m p)).0;
          y2 = λ a m. (pass_yes s a (all_mem (passes s) m p)).1;
          y3 = λ a m. (pass_yes s a (all_mem (passes s) m p)).2;
          y4 = y.0;
          y5 = y.1;
          y6 = y.2;
        }),
    λ y.
        answer
        ∙ finishing (told s).table (told s).reading told_on
        (mem_all (asked s) (λ a m. yes_pass s a (y.y1 a m) (y.y2 a m) (y.y3 a m))) (y.y4, y.y5, y.y6),
  )
    where
      answer : (load s).answer ≡ (finish (told s)).answer
      answer = ap (λ (l : Loaded). l.answer) load_told
