-- "a withdrawal leaves the list as if that polynomial had never come": a row of calls with a polynomial that comes first and is withdrawn
-- last leaves the set that the row without it leaves.
use mathlib.Core.Path.{◌≡◌, refl, sym, ap, ◌∙◌}
use mathlib.Core.Bool.{Bool, true, false, not, ◌||◌}
use mathlib.Core.List.{List, [], ◌∷◌, ◌++◌, append-nil, append_assoc}
use Prim.Native.Nat.{ℕ, ◌+◌}
use native.Mathlib.Omega.{arith}
use borrow.Author.Tests.{eq-eqb, ne_eqb, lt-leb, leb-false}
use lib.Dec.{eqb, leb}
use lib.IntN.{ℤ}
use Rattle.std.specs.Prelude.{Err}
use lib.ListN.{length, length-append}
use Rattle.theory.specs.Lists.{In, here, there}
use Rattle.theory.proofs.Tests.{or_fails_left, or_fails_right}
use Rattle.refusal.specs.declared.Refusal.TheVariants.{Full}
use Rattle.refusal.specs.Rules.{Verdict, passes, refuses, tried, rule2, rule3, rule15, rule16}
use Rattle.refusal.proofs.Rules.{rule15_passes}
use Rattle.systems.specs.Model.{Congruence, congruence, Model, model, is_held, without}
use Rattle.systems.specs.Calls.{held_or, add_verdict, after_add, withdraw_verdict, after_withdraw}
use Rattle.systems.specs.History.{Call, add, withdraw, fetch, changed, after, answers_of, after_all}
use Rattle.systems.proofs.Tags.{passed_unheld}

-- A set with a congruence c in it, and without it

module _ (t : ℕ) (c : Congruence) where
  held-beside : (c.tag ≡ t → ⊥) → (xs ys : List Congruence) → is_held t (xs ++ (c ∷ ys)) ≡ is_held t (xs ++ ys)
  unfolding is_held
  held-beside h [] ys = rw (ne_eqb c.tag t h)
  held-beside h (x ∷ xs) ys = ap (λ (b : Bool). eqb x.tag t || b) (held-beside h xs ys)

  without-it : c.tag ≡ t → (xs ys : List Congruence) → is_held t xs ≡ false → without t (xs ++ (c ∷ ys)) ≡ xs ++ ys
  unfolding without is_held
  without-it e [] ys h = rw (eq-eqb c.tag t e, without)
  without-it e (x ∷ xs) ys h =
      let other : eqb x.tag t ≡ false = or_fails_left (eqb x.tag t) (is_held t xs) h in
      rw (other, without) (ap (λ (l : List Congruence). x ∷ l) (without-it e xs ys (or_fails_right (eqb x.tag t) (is_held t xs) h)))

  it-is-held : c.tag ≡ t → (xs ys : List Congruence) → is_held t (xs ++ (c ∷ ys)) ≡ true
  unfolding is_held
  it-is-held e [] ys = rw (eq-eqb c.tag t e)
  it-is-held e (x ∷ xs) ys = go (eqb x.tag t) (it-is-held e xs ys)
    where
      go : (b : Bool) → is_held t (xs ++ (c ∷ ys)) ≡ true → (b || is_held t (xs ++ (c ∷ ys))) ≡ true
      go true q = refl
      go false q = q

-- c, of this tag, stands between two parts of a set, and no other of the first part has the tag
record Between (tag : ℕ) (c : Congruence) (with_it left : List Congruence) : Type 0 where
  before : List Congruence
  after : List Congruence
  free : is_held tag before ≡ false
  with_is : with_it ≡ before ++ (c ∷ after)
  left_is : left ≡ before ++ after

module _ {tag : ℕ} {c : Congruence} (its_tag : c.tag ≡ tag) where
  -- another congruence comes
  between_next : {C D : List Congruence} (d : Congruence) → Between tag c C D → Between tag c (C ++ (d ∷ [])) (D ++ (d ∷ []))
  between_next d b =
      record {
        before = b.before;
        after = b.after ++ (d ∷ []);
        free = b.free;
        with_is = ap (λ (l : List Congruence). l ++ (d ∷ [])) b.with_is ∙ append_assoc b.before (c ∷ b.after) (d ∷ []);
        left_is = ap (λ (l : List Congruence). l ++ (d ∷ [])) b.left_is ∙ append_assoc b.before b.after (d ∷ []);
      }

  -- another one goes
  between-without : (t : ℕ) → (t ≡ tag → ⊥) → (xs ys : List Congruence) → is_held tag xs ≡ false
      → Between tag c (without t (xs ++ (c ∷ ys))) (without t (xs ++ ys))
  unfolding without is_held
  between-without t other [] ys h =
      record {
        before = [];
        after = without t ys;
        free = refl;
        with_is = rw (ne_eqb c.tag t (λ e. other (sym e ∙ its_tag)), without);
        left_is = refl;
      }
  between-without t other (x ∷ xs) ys h = go (between-without t other xs ys unheld) (eqb x.tag t) refl
    where
      unheld : is_held tag xs ≡ false
      unheld = or_fails_right (eqb x.tag tag) (is_held tag xs) h

      go : Between tag c (without t (xs ++ (c ∷ ys))) (without t (xs ++ ys)) → (b : Bool) → eqb x.tag t ≡ b
          → Between tag c (without t (x ∷ (xs ++ (c ∷ ys)))) (without t (x ∷ (xs ++ ys)))
      go b true q =
          record { before = xs; after = ys; free = unheld; with_is = rw (q, without); left_is = rw (q, without) }
      go b false q =
          record {
            before = x ∷ b.before;
            after = b.after;
            free = rw (or_fails_left (eqb x.tag tag) (is_held tag xs) h) b.free;
            with_is = rw (q, without) (ap (λ (l : List Congruence). x ∷ l) b.with_is);
            left_is = rw (q, without) (ap (λ (l : List Congruence). x ∷ l) b.left_is);
          }

-- Two models, of which one holds c as well

record Beside (tag : ℕ) (c : Congruence) (M N : Model) : Type 0 where
  its_tag : c.tag ≡ tag
  same_p : M.p ≡ N.p
  same_n : M.n ≡ N.n
  between : Between tag c M.held N.held

-- where rule 16 does not refuse, the rules before it refuse or none does
refused_earlier : (a b c v : Verdict) → (tried (a ∷ b ∷ c ∷ refuses Full ∷ []) ≡ refuses Full → ⊥)
    → tried (a ∷ b ∷ c ∷ refuses Full ∷ []) ≡ tried (a ∷ b ∷ c ∷ v ∷ [])
refused_earlier (refuses r) b c v h = refl
refused_earlier passes (refuses r) c v h = refl
refused_earlier passes passes (refuses r) v h = refl
refused_earlier passes passes passes v h = absurd (h refl)

module _ {tag : ℕ} {c : Congruence} {M N : Model} (w : Beside tag c M N) where
  abbrev xs : List Congruence
  xs = w.between.before

  abbrev ys : List Congruence
  ys = w.between.after

  same-held : (t : ℕ) → (t ≡ tag → ⊥) → is_held t M.held ≡ is_held t N.held
  same-held t other =
      ap (is_held t) w.between.with_is
      ∙ held-beside t c (λ e. other (sym e ∙ w.its_tag)) xs ys
      ∙ ap (is_held t) (sym w.between.left_is)

  one_more : length M.held ≡ length N.held + 1
  one_more =
      let a : length M.held ≡ length xs + length (c ∷ ys) = ap length w.between.with_is ∙ length-append xs (c ∷ ys) in
      let b : length N.held ≡ length xs + length ys = ap length w.between.left_is ∙ length-append xs ys in
      omega (arith, a, b)

  same-verdict : (t : ℕ) (f : List ℤ) → (t ≡ tag → ⊥) → (add_verdict M t f ≡ refuses Full → ⊥) → add_verdict M t f ≡ add_verdict N t f
  unfolding add_verdict
  same-verdict t f other not_full = go (leb 16 (length M.held)) refl
    where
      go : (b : Bool) → leb 16 (length M.held) ≡ b → add_verdict M t f ≡ add_verdict N t f
      go true q =
          let two = rule2 (length f) in
          let three = rule3 (length f) in
          let v = rule16 (length N.held) in
          let e : add_verdict M t f ≡ tried (two ∷ three ∷ rule15 (is_held t M.held) ∷ refuses Full ∷ []) = rw q in
          let full : tried (two ∷ three ∷ rule15 (is_held t M.held) ∷ refuses Full ∷ []) ≡ refuses Full → ⊥ = λ g. not_full (e ∙ g) in
          e
          ∙ refused_earlier two three (rule15 (is_held t M.held)) v full
          ∙ ap (λ (x : Bool). tried (two ∷ three ∷ rule15 x ∷ v ∷ [])) (same-held t other)
      go false q =
          let less = leb-false 16 (length M.held) q in
          let room : leb 16 (length N.held) ≡ false = lt-leb 16 (length N.held) (omega (arith, one_more, less)) in
          rw (q, room, same-held t other)

  beside-or : (v : Verdict) (C D : List Congruence) → Between tag c C D
      → Beside tag c (model M.p M.n (held_or v C M.held)) (model N.p N.n (held_or v D N.held))
  beside-or passes C D b = record { its_tag = w.its_tag; same_p = w.same_p; same_n = w.same_n; between = b }
  beside-or (refuses r) C D b = record { its_tag = w.its_tag; same_p = w.same_p; same_n = w.same_n; between = w.between }

  beside-add : (t : ℕ) (f : List ℤ) → (t ≡ tag → ⊥) → (add_verdict M t f ≡ refuses Full → ⊥)
      → Beside tag c (after_add M t f) (after_add N t f)
  unfolding after_add
  beside-add t f other not_full =
      rw (same-verdict t f other not_full)
      (beside-or (add_verdict N t f) _ _ (between_next w.its_tag (congruence t f) w.between))

  beside-withdraw : (t : ℕ) → (t ≡ tag → ⊥) → Beside tag c (after_withdraw M t) (after_withdraw N t)
  unfolding after_withdraw withdraw_verdict
  beside-withdraw t other =
      let b : Between tag c (without t M.held) (without t N.held) =
      rw (w.between.with_is, w.between.left_is) (between-without w.its_tag t other xs ys w.between.free) in
      rw (same-held t other) (beside-or (withdraw_verdict N t) _ _ b)

  -- c goes
  withdrawn : after_withdraw M tag ≡ N
  unfolding after_withdraw withdraw_verdict
  withdrawn =
      let held : is_held tag M.held ≡ true = ap (is_held tag) w.between.with_is ∙ it-is-held tag c w.its_tag xs ys in
      let left : without tag M.held ≡ N.held =
      ap (without tag) w.between.with_is ∙ without-it tag c w.its_tag xs ys w.between.free ∙ sym w.between.left_is in
      rw (rule15_passes (not (is_held tag M.held)) (ap not held)) (λ i. model (w.same_p i) (w.same_n i) (left i))

-- Rows of calls

-- the call neither adds nor withdraws under this tag
abbrev pub Apart : ℕ → Call → Type 0
Apart tag (add t f) = t ≡ tag → ⊥
Apart tag (withdraw t) = t ≡ tag → ⊥
Apart tag (fetch residues levels) = Unit

-- no call of the row is refused by rule 16
abbrev pub NoneFull : Model → List Call → Type 0
NoneFull M calls = In (changed (Err Full)) (answers_of M calls) → ⊥

beside_call : {tag : ℕ} {c : Congruence} {M N : Model} → Beside tag c M N → (call : Call) (calls : List Call) → Apart tag call
    → NoneFull M (call ∷ calls) → Beside tag c (after M call) (after N call)
unfolding answers_of
beside_call w (add t f) calls other none = beside-add w t f other (λ e. none (here (rw e)))
beside_call w (withdraw t) calls other none = beside-withdraw w t other
beside_call w (fetch residues levels) calls other none = w

beside_calls : {tag : ℕ} {c : Congruence} {M N : Model} → Beside tag c M N → (calls : List Call)
    → ((call : Call) → In call calls → Apart tag call) → NoneFull M calls → Beside tag c (after_all M calls) (after_all N calls)
unfolding after_all answers_of
beside_calls w [] apart none = w
beside_calls {M = M} {N = N} w (call ∷ calls) apart none =
    beside_calls {M = after M call} {N = after N call} (beside_call w call calls (apart call (here refl)) none) calls
    (λ x u. apart x (there u)) (λ u. none (there u))

-- Added first and withdrawn last

beside_added : (M : Model) (tag : ℕ) (f : List ℤ) → add_verdict M tag f ≡ passes → Beside tag (congruence tag f) (after_add M tag f) M
unfolding after_add
beside_added M tag f e =
    record {
      its_tag = refl;
      same_p = refl;
      same_n = refl;
      between = record {
        before = M.held;
        after = [];
        free = passed_unheld M tag f e;
        with_is = rw e;
        left_is = sym (append-nil M.held);
      };
    }

-- a polynomial that is added and, after other calls of which none found the system full, withdrawn might never have come
pub as_if_never : (M : Model) (tag : ℕ) (f : List ℤ) (calls : List Call) → add_verdict M tag f ≡ passes
    → ((call : Call) → In call calls → Apart tag call) → NoneFull (after_add M tag f) calls
    → after_withdraw (after_all (after_add M tag f) calls) tag ≡ after_all M calls
as_if_never M tag f calls e apart none = withdrawn (beside_calls (beside_added M tag f e) calls apart none)

-- and whatever came and was refused in between, what is left is the others, in the order of their coming
pub withdraw_leaves : (M : Model) (before after : List Congruence) (c : Congruence) → M.held ≡ before ++ (c ∷ after)
    → is_held c.tag before ≡ false → after_withdraw M c.tag ≡ model M.p M.n (before ++ after)
withdraw_leaves M before after c e free =
    withdrawn {N = model M.p M.n (before ++ after)} (record {
      its_tag = refl;
      same_p = refl;
      same_n = refl;
      between = record { before = before; after = after; free = free; with_is = e; left_is = refl };
    })
