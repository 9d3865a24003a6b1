-- The reader of operations, followed over a list of items.
use Prim.Native.Nat.{ℕ, zero, suc, ◌+◌, ◌≤◌, ◌<◌}
use mathlib.Core.Path.{◌≡◌, refl, sym, ap, ◌∙◌, subst}
use mathlib.Core.List.{List, [], ◌∷◌, ◌++◌}
use mathlib.Core.Bool.{Bool, true, false}
use native.Mathlib.Nat.{add_assoc}
use native.Mathlib.Omega.{arith}
use lib.ListN.{length, get_or, set, length-set}
use lib.Seq.{get_or-set_same, get_or-set_other}
use lib.Dec.{leb, eqb}
use borrow.Author.Tests.{eqb-true}
use Rattle.model.specs.Operation.{most_code, most_items, object_at, second_at, form_at, read, onward, and_then, turns}
use Rattle.model.specs.declared.Operation.{Operation}
use Rattle.model.specs.Parse.{Parse}
use Rattle.model.proofs.Lists.{and_l, and_r, both_true}
use Rattle.continuity.specs.Records.{items_length, items_numbers, within}
use Rattle.continuity.proofs.Items.{Item, Items, onto}

module _ (few most : ℕ) (enough : most_code ≤ few) (s : List ℕ) where
  -- the lists of an operation's numbers have places for all items
  pub record Roomy (op : Operation) : Type 0 where
    pub objects : length op.objects ≡ most_items
    pub seconds : length op.seconds ≡ most_items
    pub forms : length op.forms ≡ most_items

  -- an operation that was read on has the numbers that it had: those of its head, and of the items before i
  pub record Grown (i : ℕ) (op op' : Operation) : Type 0 where
    pub code : op'.code ≡ op.code
    pub subject : op'.subject ≡ op.subject
    pub partition : op'.partition ≡ op.partition
    pub count : op'.count ≡ op.count
    pub objects : (j : ℕ) → j < i → object_at op' j ≡ object_at op j
    pub seconds : (j : ℕ) → j < i → second_at op' j ≡ second_at op j
    pub forms : (j : ℕ) → j < i → form_at op' j ≡ form_at op j

  kept_at : (l m : List ℕ) (i j v : ℕ) → m ≡ set l i v → j < i → get_or m j 0 ≡ get_or l j 0
  kept_at l m i j v e h =
      ap (λ (x : List ℕ). get_or x j 0) e ∙ get_or-set_other l i j v 0 (λ q. absurd (omega (arith, q)))

  set_at : (l m : List ℕ) (i v : ℕ) → m ≡ set l i v → i < length l → get_or m i 0 ≡ v
  set_at l m i v e h = ap (λ (x : List ℕ). get_or x i 0) e ∙ get_or-set_same l i v 0 h

  pub all_left : (xs ys : List ℕ) → within few (xs ++ ys) ≡ true → within few xs ≡ true
  all_left [] ys h = refl
  all_left (x ∷ xs) ys h = both_true (and_l (leb x few) _ h) (all_left xs ys (and_r (leb x few) _ h))

  pub all_right : (xs ys : List ℕ) → within few (xs ++ ys) ≡ true → within few ys ≡ true
  all_right [] ys h = h
  all_right (x ∷ xs) ys h = all_right xs ys (and_r (leb x few) _ h)

  append_within : (xs ys : List ℕ) → within most xs ≡ true → within most ys ≡ true → within most (xs ++ ys) ≡ true
  append_within [] ys h k = k
  append_within (x ∷ xs) ys h k = both_true (and_l (leb x most) _ h) (append_within xs ys (and_r (leb x most) _ h) k)

  -- items, one after the other
  module _ (f g : ℕ → ℕ → Operation → Parse) (size : ℕ → ℕ → ℕ → ℕ) (numbers : ℕ → ℕ → ℕ → List ℕ)
      (items : Items few most enough s f g size numbers) where
    pub record Read (n i at : ℕ) (op : Operation) (p : Parse) : Type 0 where
      pub grown : Grown i op p.operation
      pub far : p.at ≡ at + items_length size p.operation n i
      pub high : within most (items_numbers numbers p.operation n i) ≡ true
      pub less : within few (items_numbers numbers p.operation n i) ≡ true → turns f n i at op ≡ p

    then_zero : (p : Parse) (k : ℕ → Operation → Parse) → (and_then p k).answer ≡ 0 → p.answer ≡ 0
    unfolding and_then onward
    then_zero p k h = go (eqb p.answer 0) refl h
      where
        go : (t : Bool) → eqb p.answer 0 ≡ t → (onward t k p).answer ≡ 0 → p.answer ≡ 0
        go true e h = eqb-true p.answer 0 e
        go false e h = h

    then_read : (end : ℕ) (op : Operation) (k : ℕ → Operation → Parse) → and_then (read end op) k ≡ k end op
    unfolding and_then onward read
    then_read end op k = refl

    one_more : (n i at : ℕ) (op : Operation) → Roomy op → i < most_items
        → (t : Item few most enough s f g size numbers i at op) → (p : Parse) → Read n (suc i) t.end t.next p
        → Read (suc n) i at op p
    unfolding turns
    one_more n i at op roomy inside t p r =
        let o : object_at p.operation i ≡ t.o =
        r.grown.objects i (omega arith)
        ∙ set_at op.objects t.next.objects i t.o t.objects (omega (arith, roomy.objects)) in
        let w : second_at p.operation i ≡ t.second =
        r.grown.seconds i (omega arith)
        ∙ set_at op.seconds t.next.seconds i t.second t.seconds (omega (arith, roomy.seconds)) in
        let m : form_at p.operation i ≡ t.form =
        r.grown.forms i (omega arith)
        ∙ set_at op.forms t.next.forms i t.form t.forms (omega (arith, roomy.forms)) in
        record {
          grown = record {
            code = r.grown.code ∙ t.head.0;
            subject = r.grown.subject ∙ t.head.1;
            partition = r.grown.partition ∙ t.head.2;
            count = r.grown.count ∙ t.head.3;
            objects = λ j l. r.grown.objects j (omega arith)
                ∙ kept_at op.objects t.next.objects i j t.o t.objects l;
            seconds = λ j l. r.grown.seconds j (omega arith)
                ∙ kept_at op.seconds t.next.seconds i j t.second t.seconds l;
            forms = λ j l. r.grown.forms j (omega arith)
                ∙ kept_at op.forms t.next.forms i j t.form t.forms l;
          };
          far =
              r.far
              ∙ (ap (λ (x : ℕ). x + items_length size p.operation n (suc i))
              (t.far ∙ ap (λ (x : ℕ). at + x) (sym (sizes o w m)))
              ∙ add_assoc at _ _);
          high = append_within
              (numbers (object_at p.operation i) (second_at p.operation i) (form_at p.operation i)) _
              (subst (λ (l : List ℕ). within most l ≡ true) (sym (named o w m)) t.high) r.high;
          less = λ small.
              let vs = numbers (object_at p.operation i) (second_at p.operation i) (form_at p.operation i) in
              let rest = items_numbers numbers p.operation n (suc i) in
              ap (λ (x : Parse). and_then x (turns f n (i + 1)))
              (t.less (subst (λ (l : List ℕ). within few l ≡ true) (named o w m) (all_left vs rest small)) ∙ t.is)
              ∙ (then_read t.end t.next (turns f n (i + 1))
              ∙ (ap (λ (x : ℕ). turns f n x t.end t.next) (omega arith) ∙ r.less (all_right vs rest small)));
        }
      where
        sizes : {a b c : ℕ} → object_at p.operation i ≡ a → second_at p.operation i ≡ b
            → form_at p.operation i ≡ c
            → size (object_at p.operation i) (second_at p.operation i) (form_at p.operation i) ≡ size a b c
        sizes e₁ e₂ e₃ = λ k. size (e₁ k) (e₂ k) (e₃ k)

        named : {a b c : ℕ} → object_at p.operation i ≡ a → second_at p.operation i ≡ b
            → form_at p.operation i ≡ c
            → numbers (object_at p.operation i) (second_at p.operation i) (form_at p.operation i) ≡ numbers a b c
        named e₁ e₂ e₃ = λ k. numbers (e₁ k) (e₂ k) (e₃ k)

    pub turns_took : (n i at : ℕ) (op : Operation) → Roomy op → i + n ≤ most_items
        → (turns g n i at op).answer ≡ 0 → Read n i at op (turns g n i at op)
    unfolding turns read
    turns_took zero i at op roomy inside h =
        record {
          grown = record {
            code = refl;
            subject = refl;
            partition = refl;
            count = refl;
            objects = λ j l. refl;
            seconds = λ j l. refl;
            forms = λ j l. refl;
          };
          far = omega arith;
          high = refl;
          less = λ small. refl;
        }
    turns_took (suc n) i at op roomy inside h =
        let t = items i at op (then_zero (g i at op) (turns g n (i + 1)) h) in
        let e : turns g (suc n) i at op ≡ turns g n (suc i) t.end t.next =
        ap (λ (x : Parse). and_then x (turns g n (i + 1))) t.is
        ∙ (then_read t.end t.next (turns g n (i + 1))
        ∙ ap (λ (x : ℕ). turns g n x t.end t.next) (omega arith)) in
        subst (λ (p : Parse). Read (suc n) i at op p) (sym e)
        (one_more n i at op roomy (omega arith) t (turns g n (suc i) t.end t.next)
        (turns_took n (suc i) t.end t.next
        (record {
          objects = ap length t.objects ∙ (length-set op.objects i t.o ∙ roomy.objects);
          seconds = ap length t.seconds ∙ (length-set op.seconds i t.second ∙ roomy.seconds);
          forms = ap length t.forms ∙ (length-set op.forms i t.form ∙ roomy.forms);
        }) (omega arith) (onto few most enough s e h)))
