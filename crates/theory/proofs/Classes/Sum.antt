-- The member numbers of the list's classes add up to the count.
use mathlib.Core.Path.{◌≡◌, refl, sym, ap, ap₂, ◌∙◌}
use mathlib.Core.Bool.{Bool, true, false}
use mathlib.Core.List.{List, [], ◌∷◌, ◌++◌, map}
use Prim.Native.Nat.{ℕ, zero, suc, ◌+◌, ◌-◌, ◌*◌, ◌%◌, ◌^◌, ◌≤◌, ◌<◌}
use native.Mathlib.Nat.{zero-add, zero-mul, suc-mul, mod-eq_of_lt, mul-add-mod_self_right}
use native.Mathlib.Omega.{arith}
use lib.ListN.{length}
use Rattle.theory.specs.Lists.{In, here, there}
use Rattle.theory.specs.Range.{passing}
use Rattle.theory.specs.Class.{Class, IsClass, Member, is_member, member_count}
use Rattle.theory.specs.ClassList.{members, member_total}
use Rattle.theory.specs.Shortest.{shortest, count}
use Rattle.theory.proofs.Lists.Names.{in-cast}
use Rattle.theory.proofs.Lists.NoRepeat.{NoRepeat}
use Rattle.theory.proofs.Numbers.Power.{pow_pos, pow_split}
use Rattle.theory.proofs.Range.{passing_same, passing_none, passing-one, passing_or}
use Rattle.theory.proofs.Passing.{passing_most, passing-sum}
use Rattle.theory.proofs.Classes.Members.{member_congruent, congruent_member, members_sound, rival_members}
use Rattle.theory.proofs.Classes.Cover.{listed, shortest-rival, shortest-disjoint, shortest_no_repeat}

-- in q numbers in a row that begin at a multiple of q, just one is congruent to a
block : (f : ℕ → Bool) (q a j : ℕ) → a < q → ((r : ℕ) → f r ≡ true → r % q ≡ a) → ((r : ℕ) → r % q ≡ a → f r ≡ true)
    → length (passing f q (j * q)) ≡ 1
block f q a j h sound complete =
    ap length (passing-one f q (j * q) (j * q + a) (omega arith) (omega arith) (complete (j * q + a) (at a h)) (λ y l b e.
    let d : j * q + (y - j * q) ≡ y = omega arith in
    let r : y % q ≡ y - j * q = rw d at (at (y - j * q) (omega arith)) in
    omega (arith, sound y e)))
  where
    at : (x : ℕ) → x < q → (j * q + x) % q ≡ x
    at x l = mul-add-mod_self_right j q x ∙ mod-eq_of_lt l

blocks : (f : ℕ → Bool) (q a : ℕ) → a < q → ((r : ℕ) → f r ≡ true → r % q ≡ a) → ((r : ℕ) → r % q ≡ a → f r ≡ true)
    → (j : ℕ) → length (passing f (j * q) 0) ≡ j
unfolding passing
blocks f q a h sound complete zero = rw (zero-mul q)
blocks f q a h sound complete (suc j) =
    let ih = blocks f q a h sound complete j in
    let one = block f q a j h sound complete in
    rw (suc-mul j q, passing-sum f (j * q) q 0, zero-add (j * q), ih, one) (omega arith)

-- "there are p^(n − t)"
pub class_size : (p n : ℕ) → 0 < p → (c : Class) → IsClass p n c → length (passing (is_member p c) (p ^ n) 0) ≡ member_count p n c
unfolding member_count
class_size p n hp c k =
    rw (pow_split p k.level_fits)
    (blocks (is_member p c) (p ^ c.level) c.residue k.residue_fits (member_congruent p c) (congruent_member p c)
    (p ^ (n - c.level)))

-- the levels of a list of 01's classes
abbrev pub levels : List Class → List ℕ
levels = map (λ (c : Class). c.level)

-- the classes of the list share no member
abbrev pub Disjoint : ℕ → ℕ → List Class → Type 0
Disjoint p n l = (c d : Class) → In c l → In d l → (r : ℕ) → Member p n c r → Member p n d r → c ≡ d

-- the members of classes that share none are counted class by class
pub disjoint_total : (p n : ℕ) → 0 < p → (l : List Class) → ((c : Class) → In c l → IsClass p n c) → NoRepeat l → Disjoint p n l
    → length (passing (members p l) (p ^ n) 0) ≡ member_total p n (levels l)
unfolding members member_total member_count
disjoint_total p n hp [] ok nr apart = ap length (passing_none (λ r. false) (p ^ n) 0 (λ x l b. refl))
disjoint_total p n hp (c ∷ l) ok nr apart =
    passing_or (is_member p c) (members p l) (p ^ n) 0 clash
    ∙ ap₂ (λ (x y : ℕ). x + y) (class_size p n hp c (ok c (here refl)))
    (disjoint_total p n hp l (λ d u. ok d (there u)) nr.1 (λ d e u v. apart d e (there u) (there v)))
  where
    clash : (r : ℕ) → 0 ≤ r → r < 0 + p ^ n → is_member p c r ≡ true → members p l r ≡ true → ⊥
    clash r h b e f =
        let (d, u, g) = members_sound p l r f in
        let small : r < p ^ n = omega arith in
        nr.0 (in-cast (apart c d (here refl) (there u) r
        (record { below = small; congruent = member_congruent p c r e })
        (record { below = small; congruent = member_congruent p d r g })) u)

-- so they are no more than there are residues
pub disjoint_most : (p n : ℕ) → 0 < p → (l : List Class) → ((c : Class) → In c l → IsClass p n c) → NoRepeat l → Disjoint p n l
    → member_total p n (levels l) ≤ p ^ n
disjoint_most p n hp l ok nr apart = rw (← disjoint_total p n hp l ok nr apart) (passing_most (members p l) (p ^ n) 0)

-- and no fewer than there are classes
pub total_least : (p n : ℕ) → 0 < p → (ts : List ℕ) → length ts ≤ member_total p n ts
unfolding member_total
total_least p n hp [] = omega arith
total_least p n hp (t ∷ ts) = omega (arith, total_least p n hp ts, pow_pos p hp (n - t))

-- and a multiple of that where no class has more members than q
pub total_most : (p n q : ℕ) (ts : List ℕ) → ((t : ℕ) → In t ts → p ^ (n - t) ≤ q) → member_total p n ts ≤ length ts * q
unfolding member_total
total_most p n q [] h = omega arith
total_most p n q (t ∷ ts) h =
    omega (arith, h t (here refl), total_most p n q ts (λ s u. h s (there u)), suc-mul (length ts) q)

-- of one class more
pub total_next : (p n : ℕ) (ts : List ℕ) (t : ℕ) → member_total p n (ts ++ (t ∷ [])) ≡ member_total p n ts + p ^ (n - t)
unfolding member_total
total_next p n [] t = omega arith
total_next p n (s ∷ ts) t = omega (arith, total_next p n ts t)

-- "the root count is the sum of the member numbers"
pub shortest_total : (S : ℕ → Bool) (p n : ℕ) → 0 < p → member_total p n (levels (shortest S p n)) ≡ count S p n
unfolding count
shortest_total S p n hp =
    sym (disjoint_total p n hp (shortest S p n) (λ c u. (listed S p n hp c u).is_class) (shortest_no_repeat S p n)
    (shortest-disjoint S p n hp))
    ∙ ap length (passing_same (members p (shortest S p n)) S (p ^ n) 0 (λ r l b.
    rival_members S p n (shortest S p n) (shortest-rival S p n hp) r (omega arith)))
