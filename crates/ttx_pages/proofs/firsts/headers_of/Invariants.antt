use Rattle.std.proofs.Common.{◌≡◌, ◌++◌, map}
use Rattle.ttx_pages.proofs.firsts.headers_of.Given as goal

abbrev pub invariant-loop-header : goal.invariant-loop-header
invariant-loop-header l = l.headers.items ++ map (λ e. e.1) l.header-iterator ≡ map (λ e. e.1) l.firsts.entries
