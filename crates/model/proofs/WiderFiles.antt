-- Requests N2 and N7: a file that is accepted within narrower limits is accepted within wider ones, with the same
-- configuration. Limits are those of objects, editions and numbers.
use Prim.Native.Nat.{ℕ, zero, suc, ◌+◌, ◌≤◌}
use mathlib.Core.Path.{◌≡◌, refl, sym, ap, ◌∙◌, subst}
use mathlib.Core.Logic.{◌⊎◌, inl, inr}
use mathlib.Core.List.{List, [], ◌∷◌}
use mathlib.Core.Bool.{Bool, true, false, cond, ◌&&◌}
use native.Mathlib.Nat.{le_refl, le_trans}
use native.Mathlib.Omega.{arith}
use lib.ListN.{get_or}
use lib.Dec.{leb}
use borrow.Author.Tests.{leb-true, le-leb}
use Rattle.model.specs.Number.{number_to}
use Rattle.model.specs.Config.{most_drivers, most_devices, most_values, Limits}
use Rattle.model.specs.ConfigFile.{
  ranged,
  field_to,
  on_field,
  Progress,
  read,
  stop,
  on_reading,
  turns,
  Row,
  done,
  field,
  absent,
  read_row_to,
  counts_to,
  object_row,
  object_of,
  object_to,
  device_row,
  device_of,
  device_to,
  set_count,
  entry_row,
  entry_of,
  entry_to,
  value_row,
  value_to,
  objects_to,
  devices_to,
  values_to,
  refused,
  after_counts,
  after_group,
  groups_to,
  load_to,
}
use Rattle.model.specs.declared.Fault.TheVariants.{Cut, Form}
use Rattle.model.specs.Num.{Num}
use Rattle.model.specs.Num.{Got, Bad}
use Rattle.model.specs.Field.{Value, No}
use Rattle.model.specs.Reading.{Reading}
use Rattle.model.specs.Reading.{At, Refused}
use Rattle.model.specs.Head.{Head}
use Rattle.model.specs.Head.{Counted, Stopped}
use Rattle.model.specs.declared.Counts.{Counts}
use Rattle.model.specs.declared.Objects.{Objects}
use Rattle.model.specs.declared.Devices.{Devices}
use Rattle.model.specs.declared.Values.{Values}
use Rattle.model.specs.Loaded.{Loaded}
use Rattle.model.proofs.Lists.{and_l, and_r, both_true}
use Rattle.model.proofs.OldNumbers.{still_read}

-- what is read stays as it is, or it was refused by a question
abbrev Stays : {R : Type 0} → (R → Type 0) → R → R → Type 0
Stays Out r r' = (r' ≡ r) ⊎ Out r

-- what a table's reading, counts and a load are where they are refused
abbrev OutTable : {T : Type 0} → Progress T → Type 0
OutTable p = (q : ℕ) × (1 ≤ q) × (p.reading ≡ Refused q)

abbrev OutHead : Head → Type 0
OutHead h = (q : ℕ) × (1 ≤ q) × (h ≡ Stopped q)

abbrev OutLoad : Loaded → Type 0
OutLoad l = 1 ≤ l.answer

before : {R : Type 0} (Out : R → Type 0) {r r' r'' : R} → r'' ≡ r' → Stays Out r r' → Stays Out r r''
before Out e (inl f) = inl (e ∙ f)
before Out e (inr f) = inr f

-- a reading, and what follows it
module _ {T R : Type 0} (Out : R → Type 0) (halt : T → ℕ → R) (out : (t : T) (q : ℕ) → 1 ≤ q → Out (halt t q)) where
  abbrev follow : Progress T → (T → ℕ → R) → R
  follow p k = on_reading (halt p.table) p.reading (k p.table)

  next_stays : (p p' : Progress T) → Stays OutTable p p' → (k k' : T → ℕ → R)
      → ((t : T) (next : ℕ) → Stays Out (k t next) (k' t next)) → Stays Out (follow p k) (follow p' k')
  unfolding on_reading
  next_stays p p' (inl e) k k' g =
      before Out (ap (λ (x : Progress T). follow x k') e) (go p.reading p.table)
    where
      go : (r : Reading) (t : T) → Stays Out (on_reading (halt t) r (k t)) (on_reading (halt t) r (k' t))
      go (At next) t = g t next
      go (Refused q) t = inl refl
  next_stays p p' (inr (q, low, e)) k k' g =
      inr (subst (λ (r : Reading). Out (on_reading (halt p.table) r (k p.table))) (sym e) (out p.table q low))

-- the turns of a loop
module _ {T : Type 0} (f f' : ℕ → ℕ → T → Progress T)
    (same : (i at : ℕ) (t : T) → Stays OutTable (f i at t) (f' i at t)) where
  turns_stay : (n i at : ℕ) (t : T) → Stays OutTable (turns f n i at t) (turns f' n i at t)
  unfolding turns stop
  turns_stay zero i at t = inl refl
  turns_stay (suc n) i at t =
      next_stays OutTable stop (λ u q low. (q, low, refl)) (f (i + 1) at t) (f' (i + 1) at t) (same (i + 1) at t)
      (λ u next. turns f n (i + 1) next u) (λ u next. turns f' n (i + 1) next u)
      (λ u next. turns_stay n (i + 1) next u)

-- numbers up to `few`, and up to `most`
module _ (few most : ℕ) (wider : few ≤ most) (s : List ℕ) where
  -- a number whose range may grow, and what follows it
  module _ {R : Type 0} (Out : R → Type 0) (halt : ℕ → R) (out : (q : ℕ) → 1 ≤ q → Out (halt q)) where
    field_stays : (at low high high' : ℕ) → high ≤ high' → (k k' : ℕ → ℕ → R)
        → ((v next : ℕ) → Stays Out (k v next) (k' v next))
        → Stays Out (on_field halt (field_to few s at low high) k) (on_field halt (field_to most s at low high') k')
    unfolding field_to ranged on_field
    field_stays at low high high' more k k' g = go (number_to few s at) refl
      where
        fit : (v next : ℕ) (t : Bool) → leb low v && leb v high ≡ t
            → Stays Out (on_field halt (cond t (Value v next) (No 3)) k)
            (on_field halt (cond (leb low v && leb v high') (Value v next) (No 3)) k')
        fit v next true e =
            let top = leb-true v high (and_r (leb low v) (leb v high) e) in
            let in_range : leb low v && leb v high' ≡ true =
            both_true (and_l (leb low v) (leb v high) e) (le-leb v high' (le_trans top more)) in
            before Out (ap (λ (t : Bool). on_field halt (cond t (Value v next) (No 3)) k') in_range) (g v next)
        fit v next false e = inr (out 3 (omega arith))

        go : (n : Num) → number_to few s at ≡ n
            → Stays Out (on_field halt (ranged low high n) k)
            (on_field halt (ranged low high' (number_to most s at)) k')
        go (Bad Cut) e = inr (out 1 (omega arith))
        go (Bad Form) e = inr (out 2 (omega arith))
        go (Got v next) e =
            before Out
            (ap (λ (n : Num). on_field halt (ranged low high' n) k') (still_read few most wider s at v next e))
            (fit v next (leb low v && leb v high) refl)

    row_stays : (row : Row) (at : ℕ) (k k' : List ℕ → ℕ → R)
        → ((vs : List ℕ) (next : ℕ) → Stays Out (k vs next) (k' vs next))
        → Stays Out (read_row_to few s at row halt k) (read_row_to most s at row halt k')
    row_stays done at k k' g = g [] at
    row_stays (field low high rest) at k k' g =
        field_stays at low high high (le_refl high) _ _ λ v a.
        row_stays (rest v) a (λ vs next. k (v ∷ vs) next) (λ vs next. k' (v ∷ vs) next) λ vs next. g (v ∷ vs) next
    row_stays (absent rest) at k k' g =
        row_stays rest at (λ vs next. k (0 ∷ vs) next) (λ vs next. k' (0 ∷ vs) next) λ vs next. g (0 ∷ vs) next

  -- a row of a table, with the same behind it
  table_stays : {T : Type 0} (t : T) (row : Row) (at : ℕ) (k : List ℕ → ℕ → Progress T)
      → Stays OutTable (read_row_to few s at row (stop t) k) (read_row_to most s at row (stop t) k)
  unfolding stop
  table_stays t row at k = row_stays OutTable (stop t) (λ q low. (q, low, refl)) row at k k (λ vs next. inl refl)

  module _ (counts : Counts) where
    object_stays : (o at : ℕ) (t : Objects)
        → Stays OutTable (object_to few s counts o at t) (object_to most s counts o at t)
    unfolding object_to
    object_stays o at t = table_stays t (object_row counts) at λ vs next. read (object_of t o vs) next

    device_stays : (v at : ℕ) (t : Devices)
        → Stays OutTable (device_to few s counts v at t) (device_to most s counts v at t)
    unfolding device_to
    device_stays v at t = table_stays t (device_row counts) at λ vs next. read (device_of t v vs) next

    module _ (kinds : List ℕ) where
      entry_stays : (v j at : ℕ) (t : Values)
          → Stays OutTable (entry_to few s counts kinds v j at t) (entry_to most s counts kinds v j at t)
      unfolding entry_to
      entry_stays v j at t = table_stays t (entry_row counts kinds) at λ vs next. read (entry_of v t j vs) next

      value_stays : (v at : ℕ) (t : Values)
          → Stays OutTable (value_to few s counts kinds v at t) (value_to most s counts kinds v at t)
      unfolding value_to stop
      value_stays v at t =
          row_stays OutTable (stop t) (λ q low. (q, low, refl)) value_row at _ _ λ vs next.
          turns_stay (entry_to few s counts kinds v) (entry_to most s counts kinds v) (entry_stays v) (get_or vs 0 0)
          0 next
          (set_count t v (get_or vs 0 0))

    -- what follows the counts
    group_stays : {T : Type 0} (p p' : Progress T) → Stays OutTable p p' → (k k' : T → ℕ → Loaded)
        → ((t : T) (next : ℕ) → Stays OutLoad (k t next) (k' t next))
        → Stays OutLoad (after_group p k) (after_group p' k')
    unfolding after_group refused
    group_stays = next_stays OutLoad (λ t. refused) (λ t q low. low)

    groups_stay : (at : ℕ) → Stays OutLoad (groups_to few s counts at) (groups_to most s counts at)
    unfolding groups_to objects_to devices_to values_to
    groups_stay at =
        group_stays (objects_to few s counts at) (objects_to most s counts at)
        (turns_stay (object_to few s counts) (object_to most s counts) object_stays counts.objects 0 at _) _ _
        λ objects a.
        group_stays (devices_to few s counts a) (devices_to most s counts a)
        (turns_stay (device_to few s counts) (device_to most s counts) device_stays counts.devices 0 a _) _ _
        λ devices b.
        group_stays (values_to few s counts objects.kind b) (values_to most s counts objects.kind b)
        (turns_stay (value_to few s counts objects.kind) (value_to most s counts objects.kind)
        (value_stays objects.kind) counts.values 0 b _) _ _
        λ values end. inl refl

-- wider limits, for one file
module _ (few most : Limits) (objects : few.objects ≤ most.objects) (edition : few.edition ≤ most.edition)
    (number : few.number ≤ most.number) (s : List ℕ) where
  counts_stay : Stays OutHead (counts_to few s) (counts_to most s)
  unfolding counts_to
  counts_stay =
      step 0 1 few.edition most.edition edition _ _ λ e a.
      step a 0 most_drivers most_drivers (le_refl most_drivers) _ _ λ d b.
      step b 0 most_devices most_devices (le_refl most_devices) _ _ λ v c.
      step c 0 few.objects most.objects objects _ _ λ n f.
      step f 0 most_values most_values (le_refl most_values) _ _ λ k next. inl refl
    where
      step : (at low high high' : ℕ) → high ≤ high' → (k k' : ℕ → ℕ → Head)
          → ((v next : ℕ) → Stays OutHead (k v next) (k' v next))
          → Stays OutHead (on_field Stopped (field_to few.number s at low high) k)
          (on_field Stopped (field_to most.number s at low high') k')
      step = field_stays few.number most.number number s OutHead Stopped (λ q low. (q, low, refl))

  load_stays : Stays OutLoad (load_to few s) (load_to most s)
  unfolding load_to after_counts refused
  load_stays = go (counts_to few s) (counts_to most s) counts_stay
    where
      on : (h : Head)
          → Stays OutLoad (after_counts h (groups_to few.number s)) (after_counts h (groups_to most.number s))
      on (Counted n next) = groups_stay few.number most.number number s n next
      on (Stopped q) = inl refl

      go : (h h' : Head) → Stays OutHead h h'
          → Stays OutLoad (after_counts h (groups_to few.number s)) (after_counts h' (groups_to most.number s))
      go h h' (inl e) = before OutLoad (ap (λ (x : Head). after_counts x (groups_to most.number s)) e) (on h)
      go h h' (inr (q, low, e)) =
          inr (subst (λ (x : Head). OutLoad (after_counts x (groups_to few.number s))) (sym e) low)

  pub load-wider : (load_to few s).answer ≡ 0 → load_to most s ≡ load_to few s
  load-wider h = go load_stays
    where
      go : Stays OutLoad (load_to few s) (load_to most s) → load_to most s ≡ load_to few s
      go (inl e) = e
      go (inr low) = absurd (omega (arith, h, low))
