-- Demand 3 of lists of calls: a list that is carried out is a trace. Assumes nothing.
use mathlib.Core.Path.{sym, subst}
use mathlib.Core.List.{List}
use Rattle.job.specs.Model.{Job}
use Rattle.allocator.specs.Layout.{StateBuffers}
use Rattle.allocator.specs.Calls.{Call}
use Rattle.calls.specs.Trace.{Trace, TraceOf}
use Rattle.calls.proofs.Traces.{code_demand3}
use Rattle.call_lists.specs.ListDemand.{ListFromLoad, ListDemand3}

pub list_trace : (j : Job) (cs : List Call) (S : StateBuffers) → ListFromLoad j cs S → TraceOf j cs S
list_trace j cs S l =
    record {
      header = l.header;
      job = l.job;
      first = l.first;
      first_records_lem = l.first_records_lem;
      loaded_so = l.loaded_so;
      records_after = l.records_after;
      trace =
          subst (λ (ds : List Call). Trace l.header l.job l.first l.first_records_lem ds S l.records_after) (sym l.calls_are)
          (l.carried_out_lem.carried l.has_room).1.traced;
    }

pub list_demand3 : ListDemand3
list_demand3 j =
    let d = code_demand3 j in
    record {
      none_refused = λ cs S l. d.none_refused cs S (list_trace j cs S l);
      rebuilt = λ cs S l. d.rebuilt cs S (list_trace j cs S l);
      decided = λ cs ds S S' l m. d.decided cs ds S S' (list_trace j cs S l) (list_trace j ds S' m);
      by_lines = λ cs ds S S' l m. d.by_lines cs ds S S' (list_trace j cs S l) (list_trace j ds S' m);
    }
