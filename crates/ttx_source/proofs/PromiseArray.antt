-- The promises of the array of pages, table by table.
use Rattle.std.proofs.Common.{◌≡◌, ◌<◌, ◌≤◌, ◌+◌, ◌++◌, ℕ, suc, List, length}
use Rattle.std.proofs.Common.{Result, Ok, Err, None, ap, refl, sym, ◌∙◌, map, drop, get_or, arith, append_assoc, append-nil}
use Rattle.std.proofs.lemmas.List.{drop_more, drop_all}
use Rattle.toml.specs.declared.value.Value.{Value}
use Rattle.toml.specs.View.{view, items_view}
use Rattle.ttx_source.specs.Values.{Fault, ◌>>=◌}
use Rattle.ttx_source.specs.Promises.{PromiseFields, promise_in, promises_in}
use Rattle.ttx_source.specs.PromiseViews.{promise_view, promise_list}
use Rattle.ttx_source.specs.declared.promises.Promise.{Promise}
use Rattle.ttx_source.proofs.Sequences.{then}

then_all : {A E : Type 0} (before first : List A) (r : Result (List A) E) →
    then before (r >>= (λ others. Ok (first ++ others))) ≡ then (before ++ first) r
then_all before first (Ok others) = ap Ok (sym (append_assoc before first others))
then_all before first (Err e) = refl

-- the promise of one page more, or the fault that ends them
pub promises_more : (key : List ℕ) (done : List PromiseFields) (vs : List Value) (i : ℕ) (d : Value) (first : List PromiseFields) → i < length vs →
    promise_in key i (view (get_or vs i d)) ≡ Ok first →
    then done (promises_in key i (items_view (drop i vs))) ≡ then (done ++ first) (promises_in key (i + 1) (items_view (drop (i + 1) vs)))
unfolding promises_in
promises_more key done vs i d first here h =
    let next : suc i ≡ i + 1 = omega arith in
    rw (drop_more vs i d here, h)
    (then_all done first (promises_in key (suc i) (items_view (drop (i + 1) vs)))
    ∙ ap (λ k. then (done ++ first) (promises_in key k (items_view (drop (i + 1) vs)))) next)

pub promises_fault : (key : List ℕ) (done : List PromiseFields) (vs : List Value) (i : ℕ) (d : Value) (e : Fault × ℕ) → i < length vs →
    promise_in key i (view (get_or vs i d)) ≡ Err e → then done (promises_in key i (items_view (drop i vs))) ≡ Err e
unfolding promises_in
promises_fault key done vs i d e here h = rw (drop_more vs i d here, h)

pub promises_end : (key : List ℕ) (done : List PromiseFields) (vs : List Value) (i : ℕ) → length vs ≤ i →
    then done (promises_in key i (items_view (drop i vs))) ≡ Ok done
unfolding promises_in
promises_end key done vs i past = rw (drop_all i vs past) (ap Ok (append-nil done))

-- nothing more, as the definitions see it
pub no_promise : (promises : List Promise) → map promise_view promises ≡ map promise_view promises ++ promise_list None
no_promise promises = sym (append-nil (map promise_view promises))
