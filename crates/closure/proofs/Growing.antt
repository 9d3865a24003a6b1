-- What following an entry adds to the words.
use Prim.Native.Nat.{ℕ, ◌+◌, ◌%◌, ◌^◌, ◌≤◌, ◌<◌}
use native.Mathlib.Omega.{arith}
use native.Mathlib.Decide.{ℕ_discrete}
use mathlib.Core.Path.{◌≡◌, refl, sym, subst, ◌∙◌}
use mathlib.Core.Logic.{inl, inr, ⊎_elim, by_cases}
use mathlib.Core.Bool.{Bool, true, false, cond, false≢true}
use mathlib.Core.List.{List}
use lib.Bits.{bit_or}
use lib.Dec.{eqb}
use lib.ListN.{get_or, length, set}
use borrow.Author.Tests.{eq-eqb, ne_eqb}
use Rattle.model.specs.Config.{most_devices, Entry, entry_place}
use Rattle.model.specs.declared.Config.{Config}
use Rattle.model.specs.Closure.{stored, next}
use Rattle.model.proofs.Lists.{and_l, and_r, both_true}
use Rattle.scene.specs.Digits.{bit, Without, Wider}
use Rattle.scene.specs.Rules.{holds_value, reads_mode, writes_mode, opens, stores}
use Rattle.scene.specs.Scene.{Scene, entry_of, count_of, In}
use Rattle.closure.specs.Words.{
  Low,
  Added,
  Followed,
  RightPair,
  RightReader,
  RightWord,
  Sound,
  Each,
  EntryIn,
  EntriesIn,
}
use Rattle.closure.specs.Search.{MayName, NoStrange}
use Rattle.scene.proofs.Digits.{or_out, bit_zero, pow_bit, pow_only, mod_bit}
use Rattle.scene.proofs.Ranges.{opens-reads, opens-descriptor, stores_on, stores-writes, stores-kind, entry-there}
use Rattle.closure.proofs.Giving.{reader_wider}
use Rattle.scene.proofs.Widening.{set_word}

-- an entry is followed
module _ (kind : List ℕ) (e : Entry) (r : ℕ) where
  abbrev kind_is : ℕ → Type 0
  kind_is n = get_or kind e.object 0 ≡ n

  holds_one : kind_is 1 → holds_value (get_or kind e.object 0) ≡ true
  holds_one q = rw q refl

  holds_four : kind_is 4 → holds_value (get_or kind e.object 0) ≡ true
  holds_four q = rw q refl

  opens-mode : opens kind e ≡ true → reads_mode e.mode ≡ true
  unfolding opens
  opens-mode h = and_l (reads_mode e.mode) (holds_value (get_or kind e.object 0)) h

  mode-opens : reads_mode e.mode ≡ true → holds_value (get_or kind e.object 0) ≡ true → opens kind e ≡ true
  unfolding opens
  mode-opens h q = both_true h q

  stores-mode : stores kind true e ≡ true → writes_mode e.mode ≡ true
  unfolding stores
  stores-mode h = and_l (writes_mode e.mode) (eqb (get_or kind e.object 0) 1) h

  mode-stores : writes_mode e.mode ≡ true → kind_is 1 → stores kind true e ≡ true
  unfolding stores
  mode-stores h q = both_true h (eq-eqb _ 1 q)

  never_stores : (kind_is 1 → ⊥) → stores kind true e ≡ true → ⊥
  unfolding stores
  never_stores h q =
      false≢true (sym (ne_eqb _ 1 h) ∙ and_r (writes_mode e.mode) (eqb (get_or kind e.object 0) 1) q)

  never_opens : (kind_is 1 → ⊥) → (kind_is 4 → ⊥) → opens kind e ≡ true → ⊥
  unfolding opens
  never_opens h q o =
      false≢true (sym (rw (ne_eqb (get_or kind e.object 0) 1 h, ne_eqb (get_or kind e.object 0) 4 q) refl)
      ∙ and_r (reads_mode e.mode) (holds_value (get_or kind e.object 0)) o)

  pub followed_transfer : {k k' k'' : List ℕ} {a b : Bool} → kind_is 1 → a ≡ reads_mode e.mode
      → b ≡ writes_mode e.mode → Wider k' k'' → Added a e.object r k k'
      → Added b e.object (2 ^ (e.value + most_devices)) k' k'' → Followed kind e r k k''
  followed_transfer q ra wb w f g =
      record {
        only = λ j n h.
            ⊎_elim
            (λ h. ⊎_elim inl (λ x. inr (x.1, inl (mode-opens (sym ra ∙ x.0) (holds_one q), x.2))) (f.only j n h))
            (λ x. inr (x.1, inr (mode-stores (sym wb ∙ x.0) q, pow_only (e.value + most_devices) n x.2)))
            (g.only j n h);
        opened = λ h n x. w.kept e.object n (f.all (ra ∙ opens-mode h) n x);
        stored = λ h. g.all (wb ∙ stores-mode h) (e.value + most_devices) (pow_bit (e.value + most_devices));
      }

  pub followed_hardcoded : {k k' : List ℕ} {a : Bool} → (kind_is 1 → ⊥) → kind_is 4 → a ≡ reads_mode e.mode
      → Added a e.object r k k' → Followed kind e r k k'
  followed_hardcoded p q ra f =
      record {
        only = λ j n h.
            ⊎_elim inl (λ x. inr (x.1, inl (mode-opens (sym ra ∙ x.0) (holds_four q), x.2))) (f.only j n h);
        opened = λ h n x. f.all (ra ∙ opens-mode h) n x;
        stored = λ h. absurd (never_stores p h);
      }

  pub followed_none : {k : List ℕ} → (kind_is 1 → ⊥) → (kind_is 4 → ⊥) → Followed kind e r k k
  followed_none p q =
      record {
        only = λ j n h. inl h;
        opened = λ h. absurd (never_opens p q h);
        stored = λ h. absurd (never_stores p h);
      }

module _ {m : Scene} where
  pub right_zero : (o : ℕ) → RightWord m o 0
  right_zero o =
      record { readers = λ n h e. absurd (bit_zero n e); values = λ v e. absurd (bit_zero (v + most_devices) e) }

  pub right_or : {o a b : ℕ} → RightWord m o a → RightWord m o b → RightWord m o (bit_or a b)
  right_or {o} {a} {b} p q =
      record {
        readers = λ n h e. ⊎_elim (p.readers n h) (q.readers n h) (or_out a b n e);
        values = λ v e. ⊎_elim (p.values v) (q.values v) (or_out a b (v + most_devices) e);
      }

  pub sound_set : (k : List ℕ) (o x : ℕ) → o < length k → Sound m k → RightWord m o x → Sound m (set k o x)
  sound_set k o x h s r = set_word (RightWord m) k o x h r s

  -- what an entry adds is right
  module _ (r v j : ℕ) (none : count_of m 0 ≡ 0) (object : In m.config.counts.objects (entry_of m v j).object)
      (known : (entry_of m v j).value ≤ m.config.counts.values) (there : In (count_of m v) j) where
    opened-right : Each m r v → (b : Bool) → opens m.config.objects.kind (entry_of m v j) ≡ b
        → RightWord m (entry_of m v j).object (cond b r 0)
    opened-right each true e =
        record {
          readers = λ n h x.
              (let y = each n x in
              record {
                reads = λ w t.
                    next (entry_of m v j) y.2.read (entry-there m none v j there)
                    (opens-reads m.config (entry_of m v j) e)
                    (opens-descriptor m.config (entry_of m v j) object e) refl t;
                device = y.1;
                object = object;
              });
          values = λ w x. absurd (omega (arith, (each (w + most_devices) x).0));
        }
    opened-right each false e = right_zero (entry_of m v j).object

    stored-right : (n : ℕ) → bit r n ≡ 1 → Each m r v → (b : Bool)
        → stores m.config.objects.kind m.storing (entry_of m v j) ≡ b
        → RightWord m (entry_of m v j).object (cond b (2 ^ ((entry_of m v j).value + most_devices)) 0)
    stored-right n x each true e =
        record {
          readers = λ i h y. absurd (omega (arith, pow_only ((entry_of m v j).value + most_devices) i y));
          values = λ w y.
              (let q : w ≡ (entry_of m v j).value =
              omega (arith, pow_only ((entry_of m v j).value + most_devices) (w + most_devices) y) in
              subst (λ (w : ℕ). RightPair m (entry_of m v j).object w) (sym q)
              (record {
                collected = stored (stores_on m.config m.storing (entry_of m v j) e) (entry_of m v j)
                    (each n x).2.read (entry-there m none v j there)
                    (stores-writes m.config m.storing (entry_of m v j) e)
                    (stores-kind m.config m.storing (entry_of m v j) e) refl refl;
                object = object;
                value = known;
              }));
        }
    stored-right n x each false e = right_zero (entry_of m v j).object

  pub entry-wider : {k k' : List ℕ} {c v j : ℕ} → Wider k k' → EntryIn m k c v j → EntryIn m k' c v j
  entry-wider {c = c} {v = v} {j = j} w e =
      record {
        opened = λ h. reader_wider c (entry_of m v j).object w (e.opened h);
        stored = λ h. w.kept (entry_of m v j).object ((entry_of m v j).value + most_devices) (e.stored h);
      }

  -- one entry more
  pub entries_more : {k k' : List ℕ} (r v i : ℕ) → Wider k k' → EntriesIn m k r v i
      → ((n : ℕ) → n < most_devices → bit r n ≡ 1 → EntryIn m k' (n + 1) v i) → EntriesIn m k' r v (i + 1)
  entries_more {k} {k'} r v i w f g j l h n p e =
      by_cases (ℕ_discrete j i) (λ q. subst (λ (j : ℕ). EntryIn m k' (n + 1) v j) (sym q) (g n p e))
      (λ q. entry-wider w (f j l (omega arith) n p e))

-- an entry that was followed
module _ (m : Scene) (on : m.storing ≡ true) (k k' : List ℕ) (r v j : ℕ)
    (f : Followed m.config.objects.kind (entry_of m v j) r k k') where
  abbrev StoresIn : Bool → Type 0
  StoresIn b = stores m.config.objects.kind b (entry_of m v j) ≡ true

  pub entry_in : (n : ℕ) → n < most_devices → bit r n ≡ 1 → EntryIn m k' (n + 1) v j
  entry_in n h x =
      record {
        opened = λ e. (n, refl, h, f.opened e n x);
        stored = λ e. f.stored (subst (λ (b : Bool). StoresIn b) on e);
      }

  pub entry-sound : count_of m 0 ≡ 0 → In m.config.counts.objects (entry_of m v j).object
      → (entry_of m v j).value ≤ m.config.counts.values → In (count_of m v) j → (n : ℕ) × (bit r n ≡ 1)
      → Each m r v → Sound m k → Sound m k'
  entry-sound none p q h some each s o =
      let opened : opens m.config.objects.kind (entry_of m v j) ≡ true
      → RightWord m (entry_of m v j).object r =
      λ e. opened-right r v j none p q h each true e in
      let stored : StoresIn true → RightWord m (entry_of m v j).object (2 ^ ((entry_of m v j).value + most_devices)) =
      λ e. stored-right r v j none p q h some.0 some.1 each true (subst (λ (b : Bool). StoresIn b) (sym on) e) in
      record {
        readers = λ n l b.
            ⊎_elim ((s o).readers n l)
            (λ x. subst (λ (o : ℕ). RightReader m (n + 1) o) (sym x.0)
            (⊎_elim (λ y. (opened y.0).readers n l y.1) (λ y. absurd (omega (arith, y.1))) x.1))
            (f.only o n b);
        values = λ u b.
            ⊎_elim ((s o).values u)
            (λ x. subst (λ (o : ℕ). RightPair m o u) (sym x.0)
            (⊎_elim (λ y. absurd (omega (arith, (each (u + most_devices) y.1).0)))
            (λ y. (stored y.0).values u
            (subst (λ (i : ℕ). bit (2 ^ ((entry_of m v j).value + most_devices)) i ≡ 1) (sym y.1)
            (pow_bit ((entry_of m v j).value + most_devices))))
            x.1))
            (f.only o (u + most_devices) b);
      }

-- entries that name only objects which their devices may name: one entry more
pub strange_more : (config : Config) (f : List ℕ) (r v i s : ℕ) → s ≡ 0
    → Without r (get_or f (get_or config.values.entries (entry_place v i) 0) 0) s → NoStrange config f r v i
    → NoStrange config f r v (i + 1)
strange_more config f r v i s z w g j n l h e =
    by_cases (ℕ_discrete j i)
    (λ q. subst (λ (j : ℕ). MayName config f n v j) (sym q)
    (⊎_elim (λ x. x) (λ x. absurd (bit_zero n (subst (λ (y : ℕ). bit y n ≡ 1) z x))) (w.all n e)))
    (λ q. g j n l (omega arith) e)

pub low_mod : (w : ℕ) → Low (w % 2 ^ most_devices)
low_mod w i e = (mod_bit w most_devices i e).0
