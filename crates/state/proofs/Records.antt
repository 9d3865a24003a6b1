-- Question 9, the walk over the records: the tables that it looks up, and one law for each way out of its tests.
use Prim.Native.Nat.{ℕ, zero, suc, ◌+◌, ◌-◌, ◌*◌, ◌≤◌, ◌<◌}
use mathlib.Core.Path.{◌≡◌, refl, sym, ap, subst, ◌∙◌}
use mathlib.Core.List.{List, ◌++◌}
use mathlib.Core.Logic.{◌⊎◌, inl, inr}
use mathlib.Core.Bool.{Bool, true, false, ◌&&◌, ◌||◌, cond, true≢false}
use native.Mathlib.Decide.{dec_le}
use native.Mathlib.Omega.{arith}
use lib.ListN.{
  length,
  get_or,
  take,
  drop,
  set,
  replicate,
  length-append,
  length-replicate,
  length-take,
  length-drop,
  get_or-append,
}
use lib.Seq.{get_or-set_same, get_or-set_other, get_or-take, get_or-drop}
use Rattle.std.specs.Prelude.{Option, None, Some}
use Rattle.std.specs.Option.{MatchOption, unwrap_or}
use Rattle.std.specs.Bool.{⊤}
use Rattle.std.specs.List.{FoldsTo}
use Rattle.std.specs.Fn.{CalledAt}
use Rattle.std.specs.Iterator.{YieldsThen}
use Rattle.std.specs.declared.ops.Range.{Range}
use Rattle.std.proofs.iter.Yields.{nat_range_steps}
use Rattle.std.proofs.lemmas.Iterator.{first_from_Range}
use denote.Bor.{Bor}
use denote.Param.Members.{Mut}
use Rattle.std.proofs.lemmas.List.{get_or-append_right}
use lib.Dec.{leb, eqb}
use borrow.Author.Tests.{eqb-true, le-leb, lt-leb, eq-eqb, ne_eqb}
use Rattle.model.specs.Config.{most_drivers, most_devices, from1to}
use Rattle.model.specs.State.{
  partition_count,
  drivers_from,
  devices_from,
  State,
  status_of,
  stands,
  object_in,
  content_of,
  assigned,
  area_length,
  right_object,
  view,
  first_bad,
}
use Rattle.model.specs.declared.Config.{Config}
use Rattle.model.proofs.Lists.{bool_cases}
use Rattle.model.proofs.Walk.{first_bad_stays}
use Rattle.state.specs.Bytes.{byte_of}
use Rattle.state.specs.Splice.{splice, part}
use Rattle.state.specs.declared.tables.Tables.{Tables}
use Rattle.state.specs.Formed.{
  found,
  is_value,
  is_value_to,
  content_right,
  at_home,
  place_right,
  Housed,
  byte_values,
  TablesOf,
}
use Rattle.state.proofs.Splicing.{length_part}
use Rattle.state.proofs.Places.{
  status_in,
  status_out,
  driver_shown,
  device_shown,
}
use Rattle.state.proofs.Forms.{and-false, and-true}
use Rattle.state.proofs.Words.{zero_at}

-- some bytes as a table, the first of them that of number `first`
module _ (v : List ℕ) (first : ℕ) (fits : first + length v ≤ byte_values) where
  abbrev zeros : List ℕ
  zeros = replicate byte_values 0

  abbrev filled : List ℕ
  filled = take first zeros ++ v

  abbrev rest : List ℕ
  rest = drop (first + length v) zeros

  long : length (take first zeros) ≡ first
  long = simp (length-take, length-replicate) (omega arith)

  length_filled : length filled ≡ first + length v
  length_filled = length-append (take first zeros) v ∙ ap (λ (n : ℕ). n + length v) long

  length_table : length (splice zeros first v) ≡ byte_values
  unfolding splice
  length_table = simp (length-append, length-take, length-drop, length-replicate) (omega arith)

  table-before : (n : ℕ) → n < first → get_or (splice zeros first v) n 0 ≡ 0
  unfolding splice
  table-before n h =
      get_or-append filled rest 0 n (omega (arith, length_filled))
      ∙ (get_or-append (take first zeros) v 0 n (omega (arith, long))
      ∙ (get_or-take first zeros n 0 h ∙ zero_at byte_values n))

  table-in : (n : ℕ) → first ≤ n → n < first + length v → get_or (splice zeros first v) n 0 ≡ get_or v (n - first) 0
  unfolding splice
  table-in n l h =
      get_or-append filled rest 0 n (omega (arith, length_filled))
      ∙ get_or-append_right (take first zeros) v first n 0 long l

  table-behind : (n : ℕ) → first + length v ≤ n → get_or (splice zeros first v) n 0 ≡ 0
  unfolding splice
  table-behind n l =
      get_or-append_right filled rest (first + length v) n 0 length_filled l
      ∙ (get_or-drop (first + length v) zeros (n - (first + length v)) 0
      ∙ zero_at byte_values (first + length v + (n - (first + length v))))

part_at : (s : List ℕ) (at n k : ℕ) → k < n → get_or (part s at n) k 0 ≡ get_or s (at + k) 0
unfolding part
part_at s at n k h = rw (get_or-take, get_or-drop)

-- bytes numbered from 1
module _ (s : List ℕ) (from many : ℕ) (low : 1 ≤ from) (high : from + many ≤ length s) (few : many < byte_values) where
  abbrev bytes : List ℕ
  bytes = part s from many

  lasts : 1 + length bytes ≡ suc many
  lasts = omega (arith, length_part s from many high)

  fits : 1 + length bytes ≤ byte_values
  fits = omega (arith, lasts)

  numbered : (n : ℕ) → get_or (splice (replicate byte_values 0) 1 bytes) n 0 ≡ byte_of s (from - 1) 1 many n
  unfolding byte_of
  numbered zero = table-before bytes 1 fits 0 (omega arith)
  numbered (suc n) = go (dec_le (suc n) many)
    where
      start : leb 1 (suc n) ≡ true
      start = le-leb 1 (suc n) (omega arith)

      go : Dec (suc n ≤ many) → get_or (splice (replicate byte_values 0) 1 bytes) (suc n) 0
          ≡ cond (from1to (suc n) many) (get_or s ((from - 1) + 1 * suc n) 0) 0
      go (yes q) =
          let e : from + (suc n - 1) ≡ (from - 1) + 1 * suc n = omega arith in
          rw (start, le-leb (suc n) many q)
          (table-in bytes 1 fits (suc n) (omega arith) (omega (arith, lasts))
          ∙ (part_at s from many (suc n - 1) (omega arith) ∙ ap (λ (i : ℕ). get_or s i 0) e))
      go (no q) =
          rw (start, lt-leb (suc n) many (omega arith))
          (table-behind bytes 1 fits (suc n) (omega (arith, lasts)))

-- the three tables
module _ (room : ℕ) (s : List ℕ) (sized : length s ≡ area_length room) where
  abbrev statuses : List ℕ
  statuses = part s 0 partition_count

  abbrev named : List ℕ
  named = splice (replicate byte_values 0) 0 statuses

  many : 0 + length statuses ≡ partition_count
  many = omega (arith, length_part s 0 partition_count (omega arith))

  within : 0 + length statuses ≤ byte_values
  within = omega (arith, many)

  named_made : (p : ℕ) → stands (get_or (set named 0 1) p 0) ≡ assigned (view room s) p
  named_made zero = rw (get_or-set_same named 0 1 0 (omega (arith, length_table statuses 0 within)))
  named_made (suc p) =
      rw (get_or-set_other named 0 (suc p) 1 0 (λ z. omega arith), ne_eqb (suc p) 0 (λ z. omega arith))
      (ap stands (go (dec_le (suc (suc p)) partition_count)))
    where
      go : Dec (suc p < partition_count) → get_or named (suc p) 0 ≡ status_of (view room s) (suc p)
      go (yes l) =
          let e : 0 + (suc p - 0) ≡ suc p = omega arith in
          table-in statuses 0 within (suc p) (omega arith) (omega (arith, many))
          ∙ (part_at s 0 partition_count (suc p - 0) (omega arith)
          ∙ (ap (λ (i : ℕ). get_or s i 0) e ∙ status_in room s (suc p) l))
      go (no l) =
          table-behind statuses 0 within (suc p) (omega (arith, many))
          ∙ (status_out room s (suc p) (omega arith))

  pub tables_made : (t : Tables) → t.named ≡ set (splice (replicate byte_values 0) 0 (part s 0 partition_count)) 0 1
      → t.drivers ≡ splice (replicate byte_values 0) 1 (part s drivers_from most_drivers)
      → t.devices ≡ splice (replicate byte_values 0) 1 (part s devices_from most_devices)
      → t.housed ≡ false → TablesOf (view room s) t
  tables_made t a b c h =
      record {
        statuses = λ p. ap (λ (l : List ℕ). stands (get_or l p 0)) a ∙ named_made p;
        of_drivers = λ d. ap (λ (l : List ℕ). get_or l d 0) b
            ∙ (numbered s drivers_from most_drivers (omega arith) (omega arith) (omega arith) d
            ∙ driver_shown room s d);
        of_devices = λ c'. ap (λ (l : List ℕ). get_or l c' 0) c
            ∙ (numbered s devices_from most_devices (omega arith) (omega arith) (omega arith) c'
            ∙ device_shown room s c');
        good = λ e. absurd (true≢false (sym e ∙ h));
      }

-- contents of object n
module _ (config : Config) (b : State) (n k : ℕ) (q : k ≡ get_or config.objects.kind n 0) where
  pub content-hardcoded : (o v : ℕ) (c : List ℕ) (r : Bool) → k ≡ 4 → o ≡ get_or config.objects.owner n 0
      → v ≡ get_or config.devices.hardcoded o 0 → c ≡ content_of b n → r ≡ is_value c v → r ≡ content_right config b n
  unfolding content_right
  content-hardcoded o v c r a e f p t = rw (← q, a, ← e, ← f, ← p) t

  pub content-value : (c : List ℕ) (r : Bool) → k ≡ 1 → c ≡ content_of b n → r ≡ is_value_to c config.counts.values
      → r ≡ content_right config b n
  unfolding content_right
  content-value c r a p t = rw (← q, a, ← p) (t ∙ sym (and-true (is_value_to c config.counts.values)))

  pub content_free : (k ≡ 4 → ⊥) → (k ≡ 1 → ⊥) → true ≡ content_right config b n
  unfolding content_right
  content_free x y = rw (← q, ne_eqb k 1 y, ne_eqb k 4 x)

-- home or not, by the ways out
module _ (t : Tables) (p home : ℕ) where
  pub home_not : (p ≡ home → ⊥) → eqb p home ≡ at_home t p home
  unfolding at_home
  home_not e = rw (ne_eqb p home e)

  pub home_known : p ≡ home → t.housed ≡ true → t.housed ≡ at_home t p home
  unfolding at_home
  home_known e h = rw (eq-eqb p home e, h)

  pub home_told : (r : Bool) → p ≡ home → t.housed ≡ false → r ≡ stands (get_or t.named p 0) → r ≡ at_home t p home
  unfolding at_home
  home_told r e h w = rw (eq-eqb p home e, h) w

-- the partition of object n
module _ (config : Config) (b : State) (t : Tables) (m : TablesOf b t) (n p k o : ℕ) (there : p ≡ object_in b n)
    (q : k ≡ get_or config.objects.class n 0) (f : o ≡ get_or config.objects.owner n 0) where
  of_driver : k ≡ 1 → (assigned b p && eqb p (get_or t.drivers o 0)) ≡ place_right config b n
  unfolding place_right
  of_driver a =
      rw (← there, ← q, a, ← f, ← m.of_drivers o, and-true (eqb p (get_or t.drivers o 0)))

  of_device : k ≡ 2 → (assigned b p && eqb p (get_or t.devices o 0)) ≡ place_right config b n
  unfolding place_right
  of_device a = rw (← there, ← q, a, ← f, ← m.of_devices o)

  -- an owner's partition is looked up, unless the head was found good
  settled : (d : ℕ) → (t.housed ≡ true → assigned b d ≡ true) → at_home t p d ≡ (assigned b p && eqb p d)
  unfolding at_home
  settled d h = go (bool_cases (eqb p d)) (bool_cases t.housed)
    where
      go : (eqb p d ≡ true) ⊎ (eqb p d ≡ false) → (t.housed ≡ true) ⊎ (t.housed ≡ false)
          → (eqb p d && (t.housed || stands (get_or t.named p 0))) ≡ (assigned b p && eqb p d)
      go (inr e) x = rw e (and-false (assigned b p))
      go (inl e) (inl x) =
          let a : assigned b p ≡ true = rw (eqb-true p d e) (h x) in
          rw (e, x, a)
      go (inl e) (inr x) = rw (e, x, m.statuses p) (sym (and-true (assigned b p)))

  pub place-driver : (r : Bool) → k ≡ 1 → r ≡ at_home t p (get_or t.drivers o 0) → r ≡ place_right config b n
  unfolding Housed
  place-driver r a e =
      e ∙ (settled (get_or t.drivers o 0) (λ h. rw (m.of_drivers o) (m.good h o).0) ∙ of_driver a)

  pub place-device : (r : Bool) → k ≡ 2 → r ≡ at_home t p (get_or t.devices o 0) → r ≡ place_right config b n
  unfolding Housed
  place-device r a e =
      e ∙ (settled (get_or t.devices o 0) (λ h. rw (m.of_devices o) (m.good h o).1) ∙ of_device a)

  pub place_free : (r : Bool) → (k ≡ 1 → ⊥) → (k ≡ 2 → ⊥) → r ≡ stands (get_or t.named p 0)
      → r ≡ place_right config b n
  unfolding place_right
  place_free r x y e =
      rw (← there, ← q, ne_eqb k 1 x, ne_eqb k 2 y) (e ∙ (m.statuses p ∙ sym (and-true (assigned b p))))

-- a whole record
module _ (config : Config) (b : State) (n : ℕ) where
  present : n ≤ config.counts.objects → right_object config b n ≡ (place_right config b n && content_right config b n)
  unfolding place_right content_right is_value is_value_to
  present h = rw (le-leb n config.counts.objects h)

  pub record-place : (t : Bool) → n ≤ config.counts.objects → t ≡ place_right config b n → t ≡ false
      → t ≡ right_object config b n
  record-place t h f x = x ∙ sym (present h ∙ ap (λ (v : Bool). v && content_right config b n) (sym f ∙ x))

  pub record-content : (t u : Bool) → n ≤ config.counts.objects → t ≡ place_right config b n → t ≡ true
      → u ≡ content_right config b n → u ≡ right_object config b n
  record-content t u h f x g = g ∙ sym (present h ∙ ap (λ (v : Bool). v && content_right config b n) (sym f ∙ x))

  module _ (h : config.counts.objects < n) (p : ℕ) (there : p ≡ object_in b n) where
    absent : right_object config b n ≡ (eqb p 0 && is_value (content_of b n) 0)
    unfolding is_value
    absent = rw (lt-leb n config.counts.objects h, ← there)

    pub absent-content : (c : List ℕ) (r : Bool) → p ≡ 0 → c ≡ content_of b n → r ≡ is_value c 0
        → r ≡ right_object config b n
    absent-content c r e f t = t ∙ sym (absent ∙ rw (eq-eqb p 0 e, ← f))

-- the walk
module _ (config : Config) (b : State) where
  -- the first n records keep the rules
  abbrev Kept : ℕ → Type 0
  Kept n = (x : ℕ) → 1 ≤ x → x ≤ n → right_object config b x ≡ true

  keeps : (n : ℕ) → Kept n → first_bad n config b ≡ 0
  unfolding first_bad
  keeps zero h = refl
  keeps (suc n) h = rw (keeps n (λ x l m. h x l (omega arith)), h (suc n) (omega arith) (omega arith))

  next : (n : ℕ) → Kept n → right_object config b (suc n) ≡ false → first_bad (suc n) config b ≡ suc n
  unfolding first_bad
  next n h e = rw (keeps n h, e)

  pub first_found : (room : ℕ) (r : Option ℕ)
      → MatchOption r ((x : ℕ) → 1 ≤ x → x < room + 1 → right_object config b x ≡ true)
      (λ n. (1 ≤ n) × (n < room + 1) × (right_object config b n ≡ false)
      × ((x : ℕ) → 1 ≤ x → x < n → right_object config b x ≡ true)) → r ≡ found (first_bad room config b)
  unfolding found
  first_found room None h =
      let e : first_bad room config b ≡ 0 = keeps room (λ x l m. h x l (omega arith)) in
      rw e
  first_found room (Some zero) h = absurd (omega (arith, h.0))
  first_found room (Some (suc n)) h =
      let e : first_bad room config b ≡ suc n =
      first_bad_stays config b (suc n) room (omega (arith, h.1)) n (next n (λ x l m. h.3 x l (omega arith)) h.2) in
      rw e

  -- what `find` over the numbers of the records tells
  pub walk_found : {F : Type 0} {g : Mut F (Bor ℕ × Unit {0}) Bool} {s : Range ℕ} (room : ℕ) (u : Range ℕ) (f : F)
      (r : Option ℕ) → s ≡ record { start = 1; end = room + 1 }
      → (xs : List ℕ) × (j : F) × YieldsThen nat_range_steps s xs r u
      × FoldsTo (λ p x q. CalledAt g p x false q) f xs j × MatchOption r ⊤ (λ x. (h : F) × CalledAt g j x true h)
      → ((x : ℕ) (q : F) → CalledAt g f x true q → right_object config b x ≡ false)
      → ((x : ℕ) (q : F) → CalledAt g f x false q → (q ≡ f) × (right_object config b x ≡ true))
      → r ≡ found (first_bad room config b)
  walk_found {s} room u f r e d bad good =
      first_found room r (subst (λ (t : Range ℕ). MatchOption r
      ((x : ℕ) → t.start ≤ x → x < t.end → right_object config b x ≡ true)
      (λ n. (t.start ≤ n) × (n < t.end) × (right_object config b n ≡ false)
      × ((x : ℕ) → t.start ≤ x → x < n → right_object config b x ≡ true))) e
      (first_from_Range s u f r (λ x. right_object config b x ≡ false) (λ x. right_object config b x ≡ true) d bad
      good))

pub found_or_none : (k : ℕ) → unwrap_or (found k) 0 ≡ k
unfolding found
found_or_none zero = refl
found_or_none (suc k) = refl
