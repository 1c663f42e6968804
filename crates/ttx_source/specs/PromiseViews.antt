-- The promises of the program as those of the definitions.
--
--   promise_view, promise_list     a promise, and the promise of a page, which may have none
use Rattle.std.specs.Prelude.{List, [], ◌∷◌, Option, Some, None}
use Rattle.ttx_source.specs.Promises.{PromiseFields, promise_at}
use Rattle.ttx_source.specs.declared.promises.Promise.{Promise}

abbrev pub promise_view : Promise → PromiseFields
promise_view p = promise_at p.page p.fields p.fixed

abbrev pub promise_list : Option Promise → List PromiseFields
promise_list None = []
promise_list (Some p) = promise_view p ∷ []
