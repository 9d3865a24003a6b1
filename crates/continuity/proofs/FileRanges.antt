-- Request N7: the readers of a file's rows, with numbers up to two limits, both above every range of edition 1.
use Prim.Native.Nat.{ℕ, zero, suc, ◌+◌, ◌≤◌, ◌<◌}
use mathlib.Core.Path.{◌≡◌, refl, sym, ap, ◌∙◌, subst}
use mathlib.Core.Logic.{◌⊎◌, inl, inr}
use mathlib.Core.List.{List, [], ◌∷◌}
use mathlib.Core.Bool.{Bool, true, false, cond, ◌&&◌, true≢false, false≢true}
use native.Mathlib.Omega.{arith}
use lib.ListN.{length, get_or, drop}
use lib.Dec.{ltb, leb, eqb}
use borrow.Author.Tests.{leb-true, lt-leb}
use Rattle.model.specs.Number.{most_bytes, lead, value_of, shortest, formed_to, form_to, head_to, number_to}
use Rattle.model.specs.Config.{most_objects, serial_edition, most_serial, first_limits}
use Rattle.model.specs.ConfigFile.{
  ranged,
  field_to,
  on_field,
  Progress,
  read,
  stop,
  on_reading,
  turns,
  Row,
  done,
  field,
  absent,
  read_row_to,
  owner_most,
  stored_most,
  object_row,
  object_of,
  object_to,
  device_row,
  device_of,
  device_to,
  set_count,
  entry_row,
  entry_of,
  entry_to,
  value_row,
  value_to,
  objects_to,
  devices_to,
  values_to,
  refused,
  after_group,
  groups_to,
}
use Rattle.model.specs.declared.Fault.TheVariants.{Cut, Form}
use Rattle.model.specs.Num.{Num}
use Rattle.model.specs.Num.{Got, Bad}
use Rattle.model.specs.Field.{Value, No}
use Rattle.model.specs.Reading.{Reading}
use Rattle.model.specs.Reading.{At, Refused}
use Rattle.model.specs.Head.{Head}
use Rattle.model.specs.Head.{Counted, Stopped}
use Rattle.model.specs.declared.Counts.{Counts}
use Rattle.model.specs.declared.Objects.{Objects}
use Rattle.model.specs.declared.Devices.{Devices}
use Rattle.model.specs.declared.Values.{Values}
use Rattle.model.specs.Loaded.{Loaded}
use Rattle.model.proofs.Lists.{and_r, not-true}
use Rattle.model.proofs.OldNumbers.{still_read, newly_read}
use Rattle.model.proofs.Accepted.{HeadTold}

-- it is the same, or refused by 3 where it was by 2
abbrev pub Turned : {R : Type 0} → (ℕ → R → Type 0) → R → R → Type 0
Turned Out r r' = (r' ≡ r) ⊎ (Out 2 r × Out 3 r')

-- a table's reading, counts and a load that are refused by q
abbrev pub OutTable : {T : Type 0} → ℕ → Progress T → Type 0
OutTable q p = p.reading ≡ Refused q

abbrev pub OutHead : ℕ → Head → Type 0
OutHead q h = h ≡ Stopped q

abbrev pub OutLoad : ℕ → Loaded → Type 0
OutLoad q l = l.answer ≡ q

pub before : {R : Type 0} (Out : ℕ → R → Type 0) {r r' r'' : R} → r'' ≡ r' → Turned Out r r' → Turned Out r r''
before Out e (inl f) = inl (e ∙ f)
before Out e (inr (x, y)) = inr (x, subst (Out 3) (sym e) y)

-- a number by its three tests, with two limits
abbrev tested : ℕ → ℕ → Bool → Bool → Bool → Num
tested w m x a l = cond x (cond (a && l) (Got w m) (Bad Form)) (Bad Cut)

abbrev pub is_cut : Num → Bool
is_cut (Got v next) = false
is_cut (Bad Cut) = true
is_cut (Bad Form) = false

cut_cut : (w m : ℕ) (x a l l' : Bool) → is_cut (tested w m x a l) ≡ is_cut (tested w m x a l')
cut_cut w m true true true true = refl
cut_cut w m true true true false = refl
cut_cut w m true true false true = refl
cut_cut w m true true false false = refl
cut_cut w m true false l l' = refl
cut_cut w m false a l l' = refl

pub is_cut_lem : (few most : ℕ) (s : List ℕ) (at : ℕ) → is_cut (number_to few s at) ≡ is_cut (number_to most s at)
unfolding number_to head_to form_to formed_to
is_cut_lem few most s at =
    let t = drop at s in
    let n = lead t in
    cut_cut (value_of t n) (at + n + 1) (ltb n (length t)) (ltb n most_bytes && shortest t n) (leb (value_of t n) few)
    (leb (value_of t n) most)

-- a reading, and what follows it
module _ {T R : Type 0} (Out : ℕ → R → Type 0) (halt : T → ℕ → R) (out : (t : T) (q : ℕ) → Out q (halt t q)) where
  abbrev follow : Progress T → (T → ℕ → R) → R
  follow p k = on_reading (halt p.table) p.reading (k p.table)

  next_turned : (p p' : Progress T) → Turned OutTable p p' → (k k' : T → ℕ → R)
      → ((t : T) (next : ℕ) → Turned Out (k t next) (k' t next)) → Turned Out (follow p k) (follow p' k')
  unfolding on_reading
  next_turned p p' (inl e) k k' g =
      before Out (ap (λ (x : Progress T). follow x k') e) (go p.reading p.table)
    where
      go : (r : Reading) (t : T) → Turned Out (on_reading (halt t) r (k t)) (on_reading (halt t) r (k' t))
      go (At next) t = g t next
      go (Refused q) t = inl refl
  next_turned p p' (inr (x, y)) k k' g =
      inr (
        subst (λ (r : Reading). Out 2 (on_reading (halt p.table) r (k p.table))) (sym x) (out p.table 2),
        subst (λ (r : Reading). Out 3 (on_reading (halt p'.table) r (k' p'.table))) (sym y) (out p'.table 3),
      )

module _ {T : Type 0} (f f' : ℕ → ℕ → T → Progress T)
    (each : (i at : ℕ) (t : T) → Turned OutTable (f i at t) (f' i at t)) where
  turns_turned : (n i at : ℕ) (t : T) → Turned OutTable (turns f n i at t) (turns f' n i at t)
  unfolding turns stop
  turns_turned zero i at t = inl refl
  turns_turned (suc n) i at t =
      next_turned OutTable stop (λ u q. refl) (f (i + 1) at t) (f' (i + 1) at t) (each (i + 1) at t)
      (λ u next. turns f n (i + 1) next u) (λ u next. turns f' n (i + 1) next u)
      (λ u next. turns_turned n (i + 1) next u)

-- every range of a row ends at `few` or below
abbrev Low : ℕ → Row → Type 0
Low few done = Unit {0}
Low few (field low high rest) = (high ≤ few) × ((v : ℕ) → Low few (rest v))
Low few (absent rest) = Low few rest

-- numbers up to `few`, and up to `most`
module _ (few most : ℕ) (wider : few ≤ most) (s : List ℕ) where
  module _ {R : Type 0} (Out : ℕ → R → Type 0) (halt : ℕ → R) (out : (q : ℕ) → Out q (halt q)) where
    field_turned : (at low high : ℕ) → high ≤ few → (k k' : ℕ → ℕ → R)
        → ((v next : ℕ) → Turned Out (k v next) (k' v next))
        → Turned Out (on_field halt (field_to few s at low high) k) (on_field halt (field_to most s at low high) k')
    unfolding field_to ranged on_field
    field_turned at low high small k k' g = go (number_to few s at) (number_to most s at) refl refl
      where
        fit : (v next : ℕ) (t : Bool)
            → Turned Out (on_field halt (cond t (Value v next) (No 3)) k)
            (on_field halt (cond t (Value v next) (No 3)) k')
        fit v next true = g v next
        fit v next false = inl refl

        too_large : (v next : ℕ) → few < v → on_field halt (ranged low high (Got v next)) k' ≡ halt 3
        too_large v next l =
            ap (λ (t : Bool). on_field halt (cond t (Value v next) (No 3)) k')
            (not-true (leb low v && leb v high)
            (λ e. absurd (let x = leb-true v high (and_r (leb low v) (leb v high) e) in omega (arith, x, l, small))))

        go : (n m : Num) → number_to few s at ≡ n → number_to most s at ≡ m
            → Turned Out (on_field halt (ranged low high n) k) (on_field halt (ranged low high m) k')
        go (Got v next) m e f =
            before Out
            (ap (λ (n : Num). on_field halt (ranged low high n) k') (sym f ∙ still_read few most wider s at v next e))
            (fit v next (leb low v && leb v high))
        go (Bad Cut) (Bad Cut) e f = inl refl
        go (Bad Cut) (Bad Form) e f = absurd (true≢false (ap is_cut (sym e) ∙ (is_cut_lem few most s at ∙ ap is_cut f)))
        go (Bad Cut) (Got v next) e f = absurd
            (true≢false (ap is_cut (sym e) ∙ (is_cut_lem few most s at ∙ ap is_cut f)))
        go (Bad Form) (Bad Cut) e f = absurd (false≢true (ap is_cut (sym e) ∙ (is_cut_lem few most s at ∙ ap is_cut f)))
        go (Bad Form) (Bad Form) e f = inl refl
        go (Bad Form) (Got v next) e f =
            inr (out 2, subst (Out 3) (sym (too_large v next (newly_read few most wider s at v next e f))) (out 3))

    pub row_turned : (row : Row) → Low few row → (at : ℕ) (k k' : List ℕ → ℕ → R)
        → ((vs : List ℕ) (next : ℕ) → Turned Out (k vs next) (k' vs next))
        → Turned Out (read_row_to few s at row halt k) (read_row_to most s at row halt k')
    row_turned done small at k k' g = g [] at
    row_turned (field low high rest) small at k k' g =
        field_turned at low high small.0 _ _ λ v a.
        row_turned (rest v) (small.1 v) a (λ vs next. k (v ∷ vs) next) (λ vs next. k' (v ∷ vs) next) λ vs next.
        g (v ∷ vs) next
    row_turned (absent rest) small at k k' g =
        row_turned rest small at (λ vs next. k (0 ∷ vs) next) (λ vs next. k' (0 ∷ vs) next) λ vs next. g (0 ∷ vs) next

  -- a row of a table, with the same behind it
  table_turned : {T : Type 0} (t : T) (row : Row) → Low few row → (at : ℕ) (k : List ℕ → ℕ → Progress T)
      → Turned OutTable (read_row_to few s at row (stop t) k) (read_row_to most s at row (stop t) k)
  unfolding stop
  table_turned t row small at k = row_turned OutTable (stop t) (λ q. refl) row small at k k (λ vs next. inl refl)

  -- what follows the counts of a file of edition 1
  module _ (counts : Counts) (many : most_objects ≤ few) (told : HeadTold first_limits (Counted counts 0)) where
    either : (t : Bool) (a b : ℕ) → a ≤ few → b ≤ few → cond t a b ≤ few
    either true a b p q = p
    either false a b p q = q

    object-low : Low few (object_row counts)
    unfolding owner_most
    object-low = (
      omega (arith, many),
      λ kind. (
        omega (arith, many),
        λ class. (
          either (eqb class 0) 0 _ (omega arith)
              (either (eqb class 1) counts.drivers counts.devices (omega (arith, many, told.0))
              (omega (arith, many, told.1))),
          λ owner. tt,
        ),
      ),
    )

    device-low : Low few (device_row counts)
    device-low = (
      omega (arith, many, told.3),
      λ w. absent-low (leb serial_edition counts.edition)
          (lt-leb serial_edition counts.edition (omega (arith, told.5))),
    )
      where
        absent-low : (t : Bool) → t ≡ false → Low few (cond t (field 0 most_serial λ serial. done) (absent done))
        absent-low true e = absurd (true≢false e)
        absent-low false e = tt

    entry-low : (kinds : List ℕ) → Low few (entry_row counts kinds)
    unfolding stored_most
    entry-low kinds = (
      omega (arith, many, told.2),
      λ o. (
        omega (arith, many),
        λ mode. (
          either (eqb (get_or kinds o 0) 1 && leb 2 mode) counts.values 0 (omega (arith, many, told.3)) (omega arith),
          λ w. tt,
        ),
      ),
    )

    value_low : Low few value_row
    value_low = (omega (arith, many), λ n. tt)

    object_turned : (o at : ℕ) (t : Objects)
        → Turned OutTable (object_to few s counts o at t) (object_to most s counts o at t)
    unfolding object_to
    object_turned o at t = table_turned t (object_row counts) object-low at λ vs next. read (object_of t o vs) next

    device_turned : (v at : ℕ) (t : Devices)
        → Turned OutTable (device_to few s counts v at t) (device_to most s counts v at t)
    unfolding device_to
    device_turned v at t = table_turned t (device_row counts) device-low at λ vs next. read (device_of t v vs) next

    entry_turned : (kinds : List ℕ) (v j at : ℕ) (t : Values)
        → Turned OutTable (entry_to few s counts kinds v j at t) (entry_to most s counts kinds v j at t)
    unfolding entry_to
    entry_turned kinds v j at t =
        table_turned t (entry_row counts kinds) (entry-low kinds) at λ vs next. read (entry_of v t j vs) next

    value_turned : (kinds : List ℕ) (v at : ℕ) (t : Values)
        → Turned OutTable (value_to few s counts kinds v at t) (value_to most s counts kinds v at t)
    unfolding value_to stop
    value_turned kinds v at t =
        row_turned OutTable (stop t) (λ q. refl) value_row value_low at _ _ λ vs next.
        turns_turned (entry_to few s counts kinds v) (entry_to most s counts kinds v) (entry_turned kinds v)
        (get_or vs 0 0)
        0 next (set_count t v (get_or vs 0 0))

    group_turned : {T : Type 0} (p p' : Progress T) → Turned OutTable p p' → (k k' : T → ℕ → Loaded)
        → ((t : T) (next : ℕ) → Turned OutLoad (k t next) (k' t next))
        → Turned OutLoad (after_group p k) (after_group p' k')
    unfolding after_group refused
    group_turned = next_turned OutLoad (λ t. refused) (λ t q. refl)

    pub groups_turned : (at : ℕ) → Turned OutLoad (groups_to few s counts at) (groups_to most s counts at)
    unfolding groups_to objects_to devices_to values_to
    groups_turned at =
        group_turned (objects_to few s counts at) (objects_to most s counts at)
        (turns_turned (object_to few s counts) (object_to most s counts) object_turned counts.objects 0 at _) _ _
        λ objects a.
        group_turned (devices_to few s counts a) (devices_to most s counts a)
        (turns_turned (device_to few s counts) (device_to most s counts) device_turned counts.devices 0 a _) _ _
        λ devices b.
        group_turned (values_to few s counts objects.kind b) (values_to most s counts objects.kind b)
        (turns_turned (value_to few s counts objects.kind) (value_to most s counts objects.kind)
        (value_turned objects.kind) counts.values 0 b _) _ _
        λ values end. inl refl
