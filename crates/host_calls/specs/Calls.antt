-- What a host's calls are among the definitions' calls.
use Rattle.std.specs.Prelude.{List, [], ◌∷◌}
use Rattle.meter.specs.Calls.{Call, On, Off, Method, SetRanges, Coupling, ZeroJob, GainJob, PhaseStart, EnergyReset, Run, Reapply, SetSettings, Frame}
use Rattle.host.specs.Stepped.{ask_of}
use Rattle.host_calls.specs.declared.HostCall.{HostCall}
use Rattle.host_calls.specs.declared.HostCall.TheVariants as host

-- one call
abbrev pub call_of : HostCall → Call
call_of (host.On time) = On time
call_of (host.Off time) = Off time
call_of (host.Method time alt) = Method time alt
call_of (host.Ranges time v i) = SetRanges time (ask_of v) (ask_of i)
call_of (host.Coupling time coup) = Coupling time coup
call_of (host.ZeroJob time) = ZeroJob time
call_of (host.GainJob time) = GainJob time
call_of host.PhaseStart = PhaseStart
call_of host.EnergyReset = EnergyReset
call_of (host.Run run) = Run run
call_of (host.SetSettings settings) = SetSettings settings
call_of (host.Reapply time) = Reapply time
call_of (host.Frame time flags bytes) = Frame time flags bytes.now

-- a list of them
abbrev pub calls_of : List HostCall → List Call
calls_of [] = []
calls_of (c ∷ cs) = call_of c ∷ calls_of cs
