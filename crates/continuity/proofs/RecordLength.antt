-- The whole record: its length by its numbers, and that a smaller limit that all are within changes nothing.
use Prim.Native.Nat.{ℕ, ◌+◌, ◌≤◌}
use mathlib.Core.Path.{◌≡◌, refl, sym, ap, ◌∙◌, subst}
use mathlib.Core.List.{List, [], ◌∷◌}
use mathlib.Core.Bool.{Bool, true, false, ◌&&◌}
use native.Mathlib.Omega.{arith}
use lib.ListN.{length}
use lib.Dec.{leb, eqb}
use borrow.Author.Tests.{leb-true, le-leb, eqb-true}
use Rattle.model.specs.Number.{bytes_to}
use Rattle.model.specs.Operation.{
  most_code,
  family_of,
  actor_of,
  with_head,
  read,
  refused,
  taken,
  number_by,
  count_at_by,
  only,
  turns,
  item_by,
  pair_by,
  object_by,
  writing_by,
  copying_by,
  partitioning_by,
  activating_by,
  listing_by,
  deactivating_by,
  arguments_by,
  after_code_by,
  Parsed,
  ended,
  read_operation_by,
}
use Rattle.model.specs.declared.Operation.{Operation}
use Rattle.model.specs.Parse.{Parse}
use Rattle.model.specs.declared.Family.{Family}
use Rattle.model.specs.declared.Family.TheVariants.{Write, Copy, Create, Destroy, Activate, Deactivate, Lock, Unlock}
use Rattle.model.specs.declared.Actor.{Actor}
use Rattle.model.specs.declared.Actor.TheVariants.{Driver, Device, External}
use Rattle.model.proofs.Lists.{and_r, both_true}
use Rattle.continuity.specs.Records.{
  item_length,
  pair_length,
  listed_length,
  items_length,
  counted_length,
  arguments_length,
  record_length,
  item_numbers,
  pair_numbers,
  listed_numbers,
  items_numbers,
  arguments_numbers,
  numbers_in,
  within,
}
use Rattle.continuity.proofs.Items.{
  took,
  counted,
  onto,
  Items,
  object_took,
  pair_took,
  item_took,
  first-within,
  rest-within,
}
use Rattle.continuity.proofs.Followed.{Roomy, Grown, turns_took}

module _ (few most : ℕ) (enough : most_code ≤ few) (s : List ℕ) where
  -- what follows a code, read
  pub record Args (f : Family) (a : Actor) (code at : ℕ) (p : Parse) : Type 0 where
    pub named : p.operation.code ≡ code
    far : p.at ≡ at + arguments_length f a p.operation
    high : within most (arguments_numbers f a p.operation) ≡ true
    less : within few (arguments_numbers f a p.operation) ≡ true → arguments_by few f a code s at ≡ p

  -- a number, a count and items
  module _ (f g : ℕ → ℕ → Operation → Parse) (size : ℕ → ℕ → ℕ → ℕ) (numbers : ℕ → ℕ → ℕ → List ℕ)
      (items : Items few most enough s f g size numbers) (head : ℕ → ℕ → Operation) (pick : Operation → ℕ) (code : ℕ)
      (codes : (v n : ℕ) → (head v n).code ≡ code) (picks : (v n : ℕ) → pick (head v n) ≡ v)
      (counts : (v n : ℕ) → (head v n).count ≡ n) (roomy : (v n : ℕ) → Roomy few most enough s (head v n))
      (keeps : (op op' : Operation) → Grown few most enough s 0 op op' → pick op' ≡ pick op) where
    abbrev listed : (ℕ → ℕ → Operation → Parse) → ℕ → ℕ → Parse
    listed r limit at =
        number_by limit s at λ v a.
        taken (count_at_by limit s a) λ n c.
        turns r n 0 c (head v n)

    record Lists (at : ℕ) (p : Parse) : Type 0 where
      named : p.operation.code ≡ code
      far : p.at ≡ at + (bytes_to (pick p.operation) + counted_length size p.operation)
      high : within most (pick p.operation ∷ items_numbers numbers p.operation p.operation.count 0) ≡ true
      less : within few (pick p.operation ∷ items_numbers numbers p.operation p.operation.count 0) ≡ true
          → listed f few at ≡ p

    lists_took : (at : ℕ) → (listed g most at).answer ≡ 0 → Lists at (listed g most at)
    lists_took at h =
        let t = took few most enough s at _ h in
        let c = counted few most enough s t.next _ (onto few most enough s t.is h) in
        let e = t.is ∙ c.is in
        let r = turns_took few most enough s f g size numbers items c.v 0 c.next (head t.v c.v)
        (roomy t.v c.v) (omega (arith, c.high)) (onto few most enough s e h) in
        let p = turns g c.v 0 c.next (head t.v c.v) in
        let v : pick p.operation ≡ t.v = keeps _ _ r.grown ∙ picks t.v c.v in
        let n : p.operation.count ≡ c.v = r.grown.count ∙ counts t.v c.v in
        subst (λ (q : Parse). Lists at q) (sym e)
        (record {
          named = r.grown.code ∙ codes t.v c.v;
          far = farther t.v c.v p.operation v n r.far t.far c.far;
          high = both_true (subst (λ (x : ℕ). leb x most ≡ true) (sym v) (le-leb t.v most t.high))
              (subst (λ (x : ℕ). within most (items_numbers numbers p.operation x 0) ≡ true) (sym n) r.high);
          less = λ small.
              let vs = items_numbers numbers p.operation p.operation.count 0 in
              t.less _ (subst (λ (x : ℕ). x ≤ few) v (first-within few most enough s (pick p.operation) vs small))
              ∙ (c.less _
              ∙ r.less (subst (λ (x : ℕ). within few (items_numbers numbers p.operation x 0) ≡ true) n
              (rest-within few most enough s (pick p.operation) vs small)));
        })
      where
        farther : (v n : ℕ) (op : Operation) → pick op ≡ v → op.count ≡ n → {end b c : ℕ}
            → end ≡ c + items_length size op n 0 → b ≡ at + bytes_to v → c ≡ b + bytes_to n
            → end ≡ at + (bytes_to (pick op) + counted_length size op)
        farther v n op e₁ e₂ f₁ f₂ f₃ =
            let x : bytes_to (pick op) ≡ bytes_to v = ap (λ (y : ℕ). bytes_to y) e₁ in
            let z : counted_length size op ≡ bytes_to n + items_length size op n 0 =
            ap (λ (y : ℕ). bytes_to y + items_length size op y 0) e₂ in
            omega (arith, x, z, f₁, f₂, f₃)

  head_roomy : (code subject partition n : ℕ) → Roomy few most enough s (with_head code subject partition n)
  unfolding with_head
  head_roomy code subject partition n = record { objects = refl; seconds = refl; forms = refl }

  -- numbers alone
  one_took : (code at : ℕ) → (deactivating_by most code s at).answer ≡ 0
      → (a : Actor) → Args Lock a code at (deactivating_by most code s at)
  unfolding deactivating_by with_head read
  one_took code at h a =
      let t = took few most enough s at _ h in
      subst (λ (q : Parse). Args Lock a code at q) (sym t.is)
      (record {
        named = refl;
        far = t.far;
        high = both_true (le-leb t.v most t.high) refl;
        less = λ l. t.less _ (first-within few most enough s t.v [] l);
      })

  partition_took : (code at : ℕ) → (partitioning_by most code s at).answer ≡ 0
      → (a : Actor) → Args Create a code at (partitioning_by most code s at)
  unfolding partitioning_by with_head read
  partition_took code at h a =
      let t = took few most enough s at _ h in
      subst (λ (q : Parse). Args Create a code at q) (sym t.is)
      (record {
        named = refl;
        far = t.far;
        high = both_true (le-leb t.v most t.high) refl;
        less = λ l. t.less _ (first-within few most enough s t.v [] l);
      })

  two_took : (code at : ℕ) → (activating_by most code s at).answer ≡ 0
      → Args Activate Driver code at (activating_by most code s at)
  unfolding activating_by with_head read
  two_took code at h =
      let t = took few most enough s at _ h in
      let u = took few most enough s t.next _ (onto few most enough s t.is h) in
      subst (λ (q : Parse). Args Activate Driver code at q) (sym (t.is ∙ u.is))
      (record {
        named = refl;
        far = omega (arith, t.far, u.far);
        high = both_true (le-leb t.v most t.high) (both_true (le-leb u.v most u.high) refl);
        less = λ l. t.less _ (first-within few most enough s t.v (u.v ∷ []) l)
            ∙ u.less _ (first-within few most enough s u.v [] (rest-within few most enough s t.v (u.v ∷ []) l));
      })

  listing_took : (code at : ℕ) → (listing_by most code s at).answer ≡ 0
      → Args Activate External code at (listing_by most code s at)
  unfolding listing_by with_head
  listing_took code at h =
      let r = lists_took (object_by few s) (object_by most s) listed_length listed_numbers
      (object_took few most enough s)
      (λ v n. with_head code 0 v n) (λ op. op.partition) code (λ v n. refl) (λ v n. refl) (λ v n. refl)
      (λ v n. head_roomy code 0 v n) (λ op op' g. g.partition) at h in
      record { named = r.named; far = r.far; high = r.high; less = r.less }

  pub args_took : (f : Family) (a : Actor) (code at : ℕ) → (arguments_by most f a code s at).answer ≡ 0
      → Args f a code at (arguments_by most f a code s at)
  unfolding writing_by copying_by with_head
  args_took Write a code at h =
      let r = lists_took (item_by few s) (item_by most s) item_length item_numbers (item_took few most enough s)
      (λ v n. with_head code v 0 n) (λ op. op.subject) code (λ v n. refl) (λ v n. refl) (λ v n. refl)
      (λ v n. head_roomy code v 0 n) (λ op op' g. g.subject) at h in
      record { named = r.named; far = r.far; high = r.high; less = r.less }
  args_took Copy a code at h =
      let r = lists_took (pair_by few s) (pair_by most s) pair_length pair_numbers (pair_took few most enough s)
      (λ v n. with_head code v 0 n) (λ op. op.subject) code (λ v n. refl) (λ v n. refl) (λ v n. refl)
      (λ v n. head_roomy code v 0 n) (λ op op' g. g.subject) at h in
      record { named = r.named; far = r.far; high = r.high; less = r.less }
  args_took Create a code at h =
      let r = partition_took code at h a in record { named = r.named; far = r.far; high = r.high; less = r.less }
  args_took Destroy a code at h =
      let r = partition_took code at h a in record { named = r.named; far = r.far; high = r.high; less = r.less }
  args_took Activate Driver code at h = two_took code at h
  args_took Activate Device code at h =
      let r = two_took code at h in record { named = r.named; far = r.far; high = r.high; less = r.less }
  args_took Activate External code at h = listing_took code at h
  args_took Deactivate Driver code at h =
      let r = one_took code at h Driver in record { named = r.named; far = r.far; high = r.high; less = r.less }
  args_took Deactivate Device code at h =
      let r = one_took code at h Device in record { named = r.named; far = r.far; high = r.high; less = r.less }
  args_took Deactivate External code at h =
      let r = listing_took code at h in record { named = r.named; far = r.far; high = r.high; less = r.less }
  args_took Lock a code at h = one_took code at h a
  args_took Unlock a code at h =
      let r = one_took code at h a in record { named = r.named; far = r.far; high = r.high; less = r.less }

  -- the whole
  pub record Whole (op : Operation) : Type 0 where
    pub long : length s ≡ record_length op
    pub high : within most (numbers_in op) ≡ true
    pub less : within few (numbers_in op) ≡ true → read_operation_by few s ≡ read_operation_by most s

  whole_took : (p : Parse) → number_by most s 0 (after_code_by most s) ≡ p → p.answer ≡ 0 → p.at ≡ length s
      → (length s ≡ record_length p.operation) × (within most (numbers_in p.operation) ≡ true)
      × (within few (numbers_in p.operation) ≡ true → number_by few s 0 (after_code_by few s) ≡ p)
  unfolding after_code_by only refused
  whole_took p e h end =
      let t = took few most enough s 0 (after_code_by most s) (onto few most enough s (sym e) h) in
      go t.v t.next (leb 1 t.v && leb t.v most_code) refl (sym e ∙ t.is) t.far
      (t.less (after_code_by few s))
    where
      go : (code next : ℕ) (b : Bool) → leb 1 code && leb code most_code ≡ b
          → p ≡ only b (arguments_by most (family_of code) (actor_of code) code s next) → next ≡ 0 + bytes_to code
          → (code ≤ few → number_by few s 0 (after_code_by few s)
          ≡ only (leb 1 code && leb code most_code) (arguments_by few (family_of code) (actor_of code) code s next))
          → (length s ≡ record_length p.operation) × (within most (numbers_in p.operation) ≡ true)
          × (within few (numbers_in p.operation) ≡ true → number_by few s 0 (after_code_by few s) ≡ p)
      go code next true b q far less =
          let r = subst (λ (x : Parse). Args (family_of code) (actor_of code) code next x) (sym q)
          (args_took (family_of code) (actor_of code) code next (onto few most enough s q h)) in
          let l : code ≤ most_code = leb-true code most_code (and_r (leb 1 code) (leb code most_code) b) in
          let z : record_length p.operation
          ≡ bytes_to code + arguments_length (family_of code) (actor_of code) p.operation =
          ap (λ (c : ℕ). bytes_to c + arguments_length (family_of c) (actor_of c) p.operation) r.named in (
            omega (arith, end, r.far, far, z),
            subst (λ (c : ℕ). within most (arguments_numbers (family_of c) (actor_of c) p.operation) ≡ true)
                (sym r.named) r.high,
            λ small. less (omega (arith, l, enough))
                ∙ (ap (λ (t : Bool). only t (arguments_by few (family_of code) (actor_of code) code s next)) b
                ∙ r.less (subst
                (λ (c : ℕ). within few (arguments_numbers (family_of c) (actor_of c) p.operation) ≡ true) r.named
                small)),
          )
      go code next false b q far less =
          absurd (let z : p.answer ≡ 10 = ap (λ (x : Parse). x.answer) q in omega (arith, h, z))

  pub record-whole : (read_operation_by most s).0 ≡ 0 → Whole (read_operation_by most s).1
  unfolding read_operation_by ended
  record-whole h =
      let p = number_by most s 0 (after_code_by most s) in
      go p refl (eqb p.answer 0) (eqb p.at (length s)) refl refl h
    where
      shut : Parse → Parsed
      shut p = ended (eqb p.answer 0 && eqb p.at (length s)) p

      go : (p : Parse) → number_by most s 0 (after_code_by most s) ≡ p → (t u : Bool) → eqb p.answer 0 ≡ t
          → eqb p.at (length s) ≡ u → (ended (t && u) p).0 ≡ 0 → Whole (ended (t && u) p).1
      go p e true true x y h =
          let r = whole_took p e (eqb-true p.answer 0 x) (eqb-true p.at (length s) y) in
          record { long = r.0; high = r.1; less = λ small. ap shut (r.2 small) ∙ sym (ap shut e) }
      go p e true false x y h = absurd (omega arith)
      go p e false u x y h = absurd (omega arith)
