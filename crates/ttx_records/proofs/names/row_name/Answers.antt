use Rattle.std.proofs.Common.{◌≡◌, codes, refl, sym, subst, arith}
use Rattle.std.specs.Fmt.{digits}
use Rattle.ttx_records.specs.Names.{row_name}
use Rattle.ttx_records.proofs.names.row_name.Goals as goal

pub returns-in-1 : goal.returns-in-1
unfolding row_name digits
returns-in-1 c = subst (λ n. codes "row 1" ≡ row_name n) (sym c.in-1.is) refl

pub returns-in-2 : goal.returns-in-2
unfolding row_name digits
returns-in-2 c = subst (λ n. codes "row 2" ≡ row_name n) (sym c.in-2.is) refl

pub returns-in-3 : goal.returns-in-3
unfolding row_name digits
returns-in-3 c = subst (λ n. codes "row 3" ≡ row_name n) (sym c.in-3.is) refl

pub returns-in-4 : goal.returns-in-4
unfolding row_name digits
returns-in-4 c = subst (λ n. codes "row 4" ≡ row_name n) (sym c.in-4.is) refl

pub returns-in-5 : goal.returns-in-5
unfolding row_name digits
returns-in-5 c = subst (λ n. codes "row 5" ≡ row_name n) (sym c.in-5.is) refl

pub returns-in-6 : goal.returns-in-6
unfolding row_name digits
returns-in-6 c = subst (λ n. codes "row 6" ≡ row_name n) (sym c.in-6.is) refl

pub returns-in-7 : goal.returns-in-7
unfolding row_name digits
returns-in-7 c = subst (λ n. codes "row 7" ≡ row_name n) (sym c.in-7.is) refl

pub returns-in-8 : goal.returns-in-8
unfolding row_name digits
returns-in-8 c = subst (λ n. codes "row 8" ≡ row_name n) (sym c.in-8.is) refl

pub returns-in-9 : goal.returns-in-9
unfolding row_name digits
returns-in-9 c = subst (λ n. codes "row 9" ≡ row_name n) (sym c.in-9.is) refl

pub returns-in-10 : goal.returns-in-10
unfolding row_name digits
returns-in-10 c = subst (λ n. codes "row 10" ≡ row_name n) (sym c.in-10.is) refl

pub returns-in-11 : goal.returns-in-11
unfolding row_name digits
returns-in-11 c = subst (λ n. codes "row 11" ≡ row_name n) (sym c.in-11.is) refl

pub returns-in-12 : goal.returns-in-12
unfolding row_name digits
returns-in-12 c = subst (λ n. codes "row 12" ≡ row_name n) (sym c.in-12.is) refl

pub returns-in-13 : goal.returns-in-13
unfolding row_name digits
returns-in-13 c = subst (λ n. codes "row 13" ≡ row_name n) (sym c.in-13.is) refl

pub returns-in-14 : goal.returns-in-14
unfolding row_name digits
returns-in-14 c = subst (λ n. codes "row 14" ≡ row_name n) (sym c.in-14.is) refl

pub returns-in-15 : goal.returns-in-15
unfolding row_name digits
returns-in-15 c = subst (λ n. codes "row 15" ≡ row_name n) (sym c.in-15.is) refl

pub returns-in-16 : goal.returns-in-16
unfolding row_name digits
returns-in-16 c = subst (λ n. codes "row 16" ≡ row_name n) (sym c.in-16.is) refl

pub returns-in-17 : goal.returns-in-17
unfolding row_name digits
returns-in-17 c = subst (λ n. codes "row 17" ≡ row_name n) (sym c.in-17.is) refl

pub returns-in-18 : goal.returns-in-18
unfolding row_name digits
returns-in-18 c = subst (λ n. codes "row 18" ≡ row_name n) (sym c.in-18.is) refl

pub returns-in-19 : goal.returns-in-19
unfolding row_name digits
returns-in-19 c = subst (λ n. codes "row 19" ≡ row_name n) (sym c.in-19.is) refl

pub returns-in-20 : goal.returns-in-20
unfolding row_name digits
returns-in-20 c = subst (λ n. codes "row 20" ≡ row_name n) (sym c.in-20.is) refl

pub returns-in-21 : goal.returns-in-21
unfolding row_name digits
returns-in-21 c = subst (λ n. codes "row 21" ≡ row_name n) (sym c.in-21.is) refl

pub returns-in-22 : goal.returns-in-22
unfolding row_name digits
returns-in-22 c = subst (λ n. codes "row 22" ≡ row_name n) (sym c.in-22.is) refl

pub returns-in-23 : goal.returns-in-23
unfolding row_name digits
returns-in-23 c = subst (λ n. codes "row 23" ≡ row_name n) (sym c.in-23.is) refl

pub returns-in_default : goal.returns-in_default
unfolding row_name digits
returns-in_default c =
    let e : c.args.number ≡ 24 = let other = c.in_default in omega arith in subst (λ n. codes "row 24" ≡ row_name n) (sym e) refl
